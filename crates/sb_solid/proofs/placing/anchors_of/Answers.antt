use Rattle.std.proofs.Common.{rules, FitsSigned}
use Rattle.std.specs.Int.{w128}
use Rattle.std.proofs.lemmas.Int.{to_z-of_z}
use Rattle.theory_turns.proofs.UprightTriples.{same_vector}
use Rattle.sb_solid.proofs.placing.anchors_of.Goals as goal

pub returns : goal.returns
returns c =
    let a : FitsSigned w128 c.args.x.reach.low = search rules in
    let b : FitsSigned w128 c.args.y.reach.low = search rules in
    let d : FitsSigned w128 c.args.z.reach.low = search rules in
    let e : FitsSigned w128 c.args.way.x = search rules in
    let f : FitsSigned w128 c.args.way.y = search rules in
    let g : FitsSigned w128 c.args.way.z = search rules in
    let h : FitsSigned w128 c.anchor.result = search rules in
    let i : FitsSigned w128 c.anchor-2.result = search rules in
    let j : FitsSigned w128 c.anchor-3.result = search rules in
    let first = simp to_z-of_z at c.anchor.ensures.value in
    let second = simp to_z-of_z at c.anchor-2.ensures.value in
    let third = simp to_z-of_z at c.anchor-3.ensures.value in
    simp to_z-of_z (same_vector first second third)
