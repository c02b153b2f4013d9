-- Behind a minus stands no zero.
use Rattle.std.proofs.Common.{◌∙◌, suc, sym, arith}
use Rattle.sb_form.proofs.NumbersEndAtTheirPoint.{behind_minus, decimal_next}
use Rattle.sb_form.proofs.number.number.Goals as goal

pub returns-in_err-size-in-Some-clause-none : goal.returns-in_err-size-in-Some-clause-none
returns-in_err-size-in-Some-clause-none c =
    rw c.from_residual-in_err-size-in-Some.ensures (λ n rest short same.
    let (m, small, digits) = behind_minus n rest _ short (sym c.in-Some.ensures.found ∙ same) in
    c.in_err-size-in-Some.ensures.none (suc m) rest small digits)

pub returns-then-size-eq0-clause-none : goal.returns-then-size-eq0-clause-none
returns-then-size-eq0-clause-none c n rest short same =
    let after = behind_minus n rest _ short (sym c.in-Some.ensures.found ∙ same) in
    let read = c.in_ok-size-in-Some.ensures.found in
    let both = decimal_next _ (suc after.0) _ rest read.0 after.1 (sym read.1 ∙ after.2) in
    omega (arith, both.0, c.if-size-eq0.true)
