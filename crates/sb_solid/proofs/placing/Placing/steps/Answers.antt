use Rattle.std.proofs.Common.{rules, ◌∙◌, ap, FitsSigned}
use Rattle.std.specs.Int.{w128}
use Rattle.std.proofs.lemmas.Int.{to_z-of_z}
use Rattle.theory_turns.proofs.UprightTriples.{same_vector}
use Rattle.sb_solid.specs.Judged.{step_of}
use Rattle.sb_solid.proofs.placing.Placing.steps.Goals as goal

pub returns-clause-value : goal.returns-clause-value
returns-clause-value c =
    let a : FitsSigned w128 c.anchors_of-anchors.result.x = search rules in
    let b : FitsSigned w128 c.anchors_of-anchors.result.y = search rules in
    let d : FitsSigned w128 c.anchors_of-anchors.result.z = search rules in
    let e : FitsSigned w128 c.args.shift.x = search rules in
    let f : FitsSigned w128 c.args.shift.y = search rules in
    let g : FitsSigned w128 c.args.shift.z = search rules in
    let h : FitsSigned w128 c.step.result = search rules in
    let i : FitsSigned w128 c.step-2.result = search rules in
    let j : FitsSigned w128 c.step-3.result = search rules in
    let x = simp to_z-of_z at c.step.ensures.value in
    let y = simp to_z-of_z at c.step-2.ensures.value in
    let z = simp to_z-of_z at c.step-3.ensures.value in
    simp to_z-of_z
    (same_vector
    (x ∙ ap (λ v. step_of v.x c.args.shift.x) c.anchors_of-anchors.ensures)
    (y ∙ ap (λ v. step_of v.y c.args.shift.y) c.anchors_of-anchors.ensures)
    (z ∙ ap (λ v. step_of v.z c.args.shift.z) c.anchors_of-anchors.ensures))
