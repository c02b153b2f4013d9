-- A number ends at the first point.
use Rattle.std.proofs.Common.{◌∙◌, sym, arith}
use Rattle.std.proofs.lemmas.Grind.{common_steps}
use Rattle.sb_form.proofs.DecimalsAreReadBack.{position-decimal, front-decimal, split_at_point}
use Rattle.sb_form.proofs.number.size.Goals as goal

pub returns-in_err-point-clause-none : goal.returns-in_err-point-clause-none
returns-in_err-point-clause-none c = rw c.from_residual.ensures (λ n rest short same.
    let none = c.in_err-point.was in
    cc (position-decimal n rest _ short same, c.point_place.ensures, none))

pub returns-in_err-value-clause-none : goal.returns-in_err-value-clause-none
returns-in_err-value-clause-none c = rw c.from_residual-in_err-value.ensures (λ n rest short same.
    let first = sym c.in_ok-point.was ∙ c.point_place.ensures in
    c.in_err-value.ensures.none n short (front-decimal n _ rest _ short first same))

pub returns-clause-found : goal.returns-clause-found
returns-clause-found c =
    let first = sym c.in_ok-point.was ∙ c.point_place.ensures in
    let parts = split_at_point c.in_ok-point.point c.args.bytes.now first in
    let value = c.in_ok-value.ensures.found in
    (value.0, rw (← value.1) (grind (arith, common_steps, parts)))
