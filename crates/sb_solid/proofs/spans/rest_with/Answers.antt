use Rattle.std.proofs.Common.{rules, subst, ◌++◌, map, take, FitsSigned}
use Rattle.std.specs.Int.{w128}
use Rattle.std.proofs.lemmas.Int.{to_z-of_z}
use Rattle.std.proofs.lemmas.List.{take_all}
use Rattle.sb_solid.specs.Spans.{IsExtentOf, rest_from}
use Rattle.sb_solid.specs.Steps.{coordinate_of, coordinates, vector_at}
use Rattle.sb_solid.proofs.ListsGrow.{reaches_further}
use Rattle.sb_solid.proofs.spans.rest_with.Goals as goal

pub points-preserved : goal.points-preserved
points-preserved c numbers is =
    let f : FitsSigned w128 c.args.from = search rules in
    let n : FitsSigned w128 c.coordinate.result = search rules in
    let r : FitsSigned w128 c.rest.result = search rules in
    let one = simp to_z-of_z at c.grown.ensures in
    let of = simp to_z-of_z at c.rest.ensures.value in
    let before = simp to_z-of_z at (c.points.invariant numbers is) in
    simp to_z-of_z
    (reaches_further numbers (rest_from c.args.from) (λ l. coordinate_of c.args.along (vector_at l)) c.args.points.now
    c.points.point-index c.point-item.result c.coordinate.result c.rest.result c.grown.result.low c.grown.result.high
    c.points-test.true c.point-item.is c.coordinate.ensures.value of
    (one (numbers ++ map (rest_from c.args.from) (coordinates c.args.along (take c.points.point-index c.args.points.now))) before))

pub returns : goal.returns
returns c numbers is =
    let f : FitsSigned w128 c.args.from = search rules in
    let before = simp to_z-of_z at (c.points.invariant numbers is) in
    subst (λ l. IsExtentOf (numbers ++ map (rest_from c.args.from) (coordinates c.args.along l)) c.points.extent)
    (take_all c.points.point-index c.args.points.now c.points-test.false) before
