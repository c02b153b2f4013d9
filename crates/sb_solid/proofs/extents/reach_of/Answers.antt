use Rattle.std.proofs.Common.{◌∙◌, ap, subst, ◌++◌, take}
use Rattle.std.proofs.lemmas.List.{take_all}
use Rattle.sb_solid.specs.Spans.{IsExtentOf}
use Rattle.sb_solid.specs.Steps.{coordinates, numbers_along}
use Rattle.sb_solid.proofs.ListsGrow.{flat_more}
use Rattle.sb_solid.proofs.extents.reach_of.Goals as goal

pub loops-preserved : goal.loops-preserved
loops-preserved c =
    subst (λ l. IsExtentOf l c.reach_with-extent.result)
    (ap (λ l. numbers_along c.args.along (take c.loops.points-index c.args.loops.now) ++ coordinates c.args.along l) c.as_slice.ensures
    ∙ flat_more (coordinates c.args.along) c.args.loops.now c.loops.points-index c.points-item.result c.loops-test.true c.points-item.is)
    (c.reach_with-extent.ensures (numbers_along c.args.along (take c.loops.points-index c.args.loops.now)) c.loops.invariant)

pub returns : goal.returns
returns c =
    subst (λ l. IsExtentOf (numbers_along c.args.along l) c.loops.extent)
    (take_all c.loops.points-index c.args.loops.now c.loops-test.false) c.loops.invariant
