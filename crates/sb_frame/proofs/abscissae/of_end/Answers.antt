-- A whole number is its own fraction.
use Rattle.std.proofs.Common.{FitsSigned, rules, ◌∙◌, ap, pos, w32}
use Rattle.std.specs.Int.{w128}
use Rattle.std.proofs.lemmas.Int.{to_z-of_z}
use Rattle.theory_numbers.specs.Fractions.{reduced}
use Rattle.theory_numbers.proofs.Fractions.LowestTerms.{reduced-one}
use Rattle.sb_frame.proofs.abscissae.of_end.Goals as goal

pub returns : goal.returns
returns c =
    let along : FitsSigned w128 c.along.result = search rules in
    let x : FitsSigned w32 c.args.p.x = search rules in
    let y : FitsSigned w32 c.args.p.y = search rules in
    let wide_x : FitsSigned w128 c.args.p.x = search rules in
    let wide_y : FitsSigned w128 c.args.p.y = search rules in
    let value = simp to_z-of_z at c.along.ensures.value in
    let number = simp to_z-of_z at c.in_lowest_terms.ensures in
    number ∙ ap (λ z. reduced z (pos 1)) value ∙ reduced-one _
