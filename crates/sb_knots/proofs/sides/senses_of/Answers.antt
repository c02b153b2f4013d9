use Rattle.std.proofs.Common.{sym, ap, ap₂, ◌∙◌, subst, ◌++◌, ◌∷◌, []}
use Rattle.theory_lists.specs.Members.{Stands}
use Rattle.theory_lists.proofs.Members.{stands_at}
use Rattle.theory_plans.specs.LoopEdges.{edges_of}
use Rattle.theory_plans.specs.Loops.{is_least_first}
use Rattle.theory_parity.specs.Sides.{is_left_at_first}
use Rattle.sb_knots.proofs.EditsOfIds.{get_is}
use Rattle.sb_knots.proofs.FirstCorners.{map_more, least_there}
use Rattle.sb_knots.proofs.sides.senses_of.Goals as goal

pub loops-preserved : goal.loops-preserved
loops-preserved c listing swept least =
    let loops = c.as_slice-points-items.result.now in
    let there : Stands c.points-item.result c.as_slice-points-items.result.now =
    stands_at c.as_slice-points-items.result.now c.loops.points-index c.points-item.result
    (get_is c.as_slice-points-items.result.now c.loops.points-index c.points-item.result
    c.loops-test.true c.points-item.is) in
    let same = c.as_slice.ensures in
    c.in_ok-push.ensures.ok
    ∙ ap₂ (λ s t. s ++ t ∷ []) (c.loops.invariant listing swept least)
    (c.sense_of.ensures c.as_slice-points-items.result.now listing swept
    (subst (λ p. Stands p c.as_slice-points-items.result.now) (sym same) there)
    (ap is_least_first same
    ∙ least_there c.as_slice-points-items.result.now c.points-item.result least there)
    ∙ ap (is_left_at_first (edges_of c.as_slice-points-items.result.now)) same)
    ∙ sym
    (map_more (is_left_at_first (edges_of c.as_slice-points-items.result.now))
    c.as_slice-points-items.result.now c.loops.points-index c.points-item.result c.loops-test.true
    c.points-item.is)
