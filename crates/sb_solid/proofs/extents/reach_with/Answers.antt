use Rattle.std.proofs.Common.{rules, subst, ◌++◌, take, FitsSigned}
use Rattle.std.specs.Int.{w128}
use Rattle.std.proofs.lemmas.Int.{to_z-of_z}
use Rattle.std.proofs.lemmas.List.{take_all}
use Rattle.sb_solid.specs.Spans.{IsExtentOf}
use Rattle.sb_solid.specs.Steps.{coordinate_of, coordinates, vector_at}
use Rattle.sb_solid.proofs.ListsGrow.{reaches_next}
use Rattle.sb_solid.proofs.extents.reach_with.Goals as goal

pub points-preserved : goal.points-preserved
points-preserved c numbers is =
    let n : FitsSigned w128 c.coordinate.result = search rules in
    let one = simp to_z-of_z at c.grown.ensures in
    reaches_next numbers (λ l. coordinate_of c.args.along (vector_at l)) c.args.points.now c.points.point-index
    c.point-item.result c.coordinate.result c.grown.result.low c.grown.result.high c.points-test.true c.point-item.is
    c.coordinate.ensures.value
    (one (numbers ++ coordinates c.args.along (take c.points.point-index c.args.points.now)) (c.points.invariant numbers is))

pub returns : goal.returns
returns c numbers is =
    subst (λ l. IsExtentOf (numbers ++ coordinates c.args.along l) c.points.extent)
    (take_all c.points.point-index c.args.points.now c.points-test.false) (c.points.invariant numbers is)
