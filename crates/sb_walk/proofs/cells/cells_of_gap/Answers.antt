-- What is made for the faces of a space is their cells.
use Rattle.std.specs.Int.{w32}
use Rattle.std.proofs.Common.{rules, FitsSigned}
use Rattle.std.proofs.lemmas.Int.{to_z-of_z}
use Rattle.std.proofs.lemmas.Result.{IfOk-weaker}
use Rattle.sb_frame.specs.Network.{plan_edge_of}
use Rattle.sb_walk.specs.CellsOfGaps.{IsCellIn, AreForEach}
use Rattle.sb_walk.specs.Strips.{are_made}
use Rattle.sb_walk.proofs.CellsOfGaps.CellsInGaps.{cells_are_in}
use Rattle.sb_walk.proofs.cells.cells_of_gap.Goals as goal

pub returns : goal.returns
returns c =
    let fits_down : FitsSigned w32 c.ground_position.result = search rules in
    let fits_up : FitsSigned w32 c.ground_position-2.result = search rules in
    let down = simp to_z-of_z at c.in_ok-down.ensures in
    let up = simp to_z-of_z at c.in_ok-up.ensures in
    IfOk-weaker c.cells_of_spaces.result
    (λ list.
    AreForEach c.args.model.now
    (are_made c.args.model.now c.strip_between-strip.result c.args.present.now c.as_slice.result.now
    c.as_slice-2.result.now) c.args.present.now list.items)
    (λ list.
    AreForEach c.args.model.now
    (IsCellIn c.args.model.now c.args.slab.now (plan_edge_of c.args.below) (plan_edge_of c.args.above))
    c.args.present.now list.items)
    (λ list made.
    cells_are_in c.args.model.now c.ground_position.ensures.is_building c.args.slab.now
    c.requires.slab c.requires.direction c.args.gap (plan_edge_of c.args.below)
    (plan_edge_of c.args.above) c.requires.between c.strip_between-strip.result
    c.strip_between-strip.ensures c.args.present.now c.requires.present c.ground_position.result
    c.ground_position.ensures.value c.in_ok-down.down.items c.as_slice.result.now down
    c.as_slice.ensures.value c.ground_position-2.result c.ground_position-2.ensures.value
    c.in_ok-up.up.items c.as_slice-2.result.now up c.as_slice-2.ensures.value list.items made)
    c.cells_of_spaces.ensures
