use Rattle.std.proofs.Common.{rules, ◌∙◌, ap, sym, FitsSigned}
use Rattle.std.specs.Int.{w128}
use Rattle.std.proofs.lemmas.Int.{to_z-of_z}
use Rattle.sb_solid.specs.Grid.{is_in_world}
use Rattle.sb_solid.specs.Steps.{vector_at, wide_at}
use Rattle.sb_solid.proofs.Moves.JudgedAnswers.{told}
use Rattle.std.proofs.Common.{not}
use Rattle.sb_solid.proofs.placing.Placing.are_in_world.Goals as goal

pub returns : goal.returns
returns c e spans way =
    let a : FitsSigned w128 c.args.shift.x = search rules in
    let b : FitsSigned w128 c.args.shift.y = search rules in
    let d : FitsSigned w128 c.args.shift.z = search rules in
    let f : FitsSigned w128 c.args.way.x = search rules in
    let g : FitsSigned w128 c.args.way.y = search rules in
    let h : FitsSigned w128 c.args.way.z = search rules in
    let x = simp to_z-of_z at c.are_both_in_world-x.ensures in
    let y = simp to_z-of_z at c.are_both_in_world-y.ensures in
    let z = simp to_z-of_z at c.are_both_in_world-z.ensures in
    told is_in_world e (wide_at c.args.shift) (vector_at c.args.way) c.are_both_in_world-x.result c.are_both_in_world-y.result
    c.are_both_in_world-z.result way (x _ spans.x) (y _ spans.y) (z _ spans.z)
    ∙ ap not (sym c.all.ensures)
