use Rattle.std.proofs.Common.{rules, ◌∙◌, ap, sym, subst, ◌++◌, map, take, FitsSigned}
use Rattle.std.specs.Int.{w128}
use Rattle.std.proofs.lemmas.Int.{to_z-of_z}
use Rattle.std.proofs.lemmas.List.{take_all}
use Rattle.std.proofs.lemmas.List.{map-append}
use Rattle.sb_solid.specs.Spans.{IsExtentOf, rest_from}
use Rattle.sb_solid.specs.Steps.{coordinates, numbers_along}
use Rattle.sb_solid.proofs.ListsGrow.{flat_more}
use Rattle.sb_solid.proofs.spans.rest_of.Goals as goal

pub loops-preserved : goal.loops-preserved
loops-preserved c =
    let f : FitsSigned w128 c.args.from = search rules in
    let before = simp to_z-of_z at c.loops.invariant in
    let more = simp to_z-of_z at c.rest_with-extent.ensures in
    simp to_z-of_z
    (subst (λ l. IsExtentOf l c.rest_with-extent.result)
    (sym (map-append (rest_from c.args.from) (numbers_along c.args.along (take c.loops.points-index c.args.loops.now)) (coordinates c.args.along c.as_slice.result.now))
    ∙ ap (map (rest_from c.args.from))
    (ap (λ l. numbers_along c.args.along (take c.loops.points-index c.args.loops.now) ++ coordinates c.args.along l) c.as_slice.ensures
    ∙ flat_more (coordinates c.args.along) c.args.loops.now c.loops.points-index c.points-item.result c.loops-test.true c.points-item.is))
    (more (map (rest_from c.args.from) (numbers_along c.args.along (take c.loops.points-index c.args.loops.now))) before))

pub returns : goal.returns
returns c =
    let f : FitsSigned w128 c.args.from = search rules in
    let before = simp to_z-of_z at c.loops.invariant in
    subst (λ l. IsExtentOf (map (rest_from c.args.from) (numbers_along c.args.along l)) c.loops.extent)
    (take_all c.loops.points-index c.args.loops.now c.loops-test.false) before
