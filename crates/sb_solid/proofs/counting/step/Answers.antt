use Rattle.std.proofs.Common.{rules, ◌∙◌, ap, ◌+ℤ◌, pos, FitsSigned}
use Rattle.std.specs.Int.{w128}
use Rattle.std.proofs.lemmas.Int.{to_z-of_z}
use Rattle.sb_solid.specs.Grid.{nearest_millimetre}
use Rattle.sb_solid.proofs.counting.step.Goals as goal

pub returns-clause-value : goal.returns-clause-value
returns-clause-value c =
    let a : FitsSigned w128 c.args.anchor = search rules in
    let b : FitsSigned w128 c.args.shift = search rules in
    let d : FitsSigned w128 c.total.result = search rules in
    let e : FitsSigned w128 c.nearest.result = search rules in
    let first = simp to_z-of_z at c.total.ensures.value in
    let second = simp to_z-of_z at c.nearest.ensures.value in
    let third = simp to_z-of_z at c.raised.ensures.value in
    let f : FitsSigned w128 c.raised.result = search rules in
    simp to_z-of_z (third ∙ ap (λ t. t +ℤ pos 500000) (second ∙ ap nearest_millimetre first))
