use Rattle.std.proofs.Common.{◌∙◌, sym, ap, drop, get_or, [], false, ◌+◌}
use Rattle.std.proofs.lemmas.List.{drop_more, get_or_default}
use Rattle.std.proofs.Math.ListN.{drop_of_length-le}
use Rattle.sb_fraction.specs.Spots.{spot_of}
use Rattle.theory_plans.specs.LoopEdges.{edges_of, edges_of_loop}
use Rattle.sb_points.specs.Places.{parity_after}
use Rattle.sb_points.proofs.CrossedAsSeen.{goes-on, ends-on, inside-known, not-inside-on}
use Rattle.sb_points.proofs.within.is_inside.Goals as goal

pub returns-in-None : goal.returns-in-None
returns-in-None c =
    not-inside-on (spot_of c.args.p.now) c.args.loops.now
    (ap (λ l. parity_after (spot_of c.args.p.now) false (edges_of l)) (sym c.as_slice-points-items.ensures)
    ∙ c.loops.invariant
    ∙ ap (λ l. parity_after (spot_of c.args.p.now) c.loops.odd (edges_of l))
    (drop_more c.as_slice-points-items.result.now c.loops.points-index [] c.loops-test.true)
    ∙ ends-on (spot_of c.args.p.now) c.loops.odd
    (edges_of_loop (get_or c.as_slice-points-items.result.now c.loops.points-index []))
    (edges_of (drop (c.loops.points-index + 1) c.as_slice-points-items.result.now))
    (sym (ap (λ l. parity_after (spot_of c.args.p.now) c.loops.odd (edges_of_loop l))
    (c.as_slice.ensures ∙ c.points-item.is
    ∙ get_or_default c.as_slice-points-items.result.now c.loops.points-index c.points-item.result []
    c.loops-test.true))
    ∙ sym c.pass_loop.ensures ∙ c.in-None.is))

pub loops-preserved : goal.loops-preserved
loops-preserved c =
    c.loops.invariant
    ∙ ap (λ l. parity_after (spot_of c.args.p.now) c.loops.odd (edges_of l))
    (drop_more c.as_slice-points-items.result.now c.loops.points-index [] c.loops-test.true)
    ∙ goes-on (spot_of c.args.p.now) c.loops.odd c.in-Some.after
    (edges_of_loop (get_or c.as_slice-points-items.result.now c.loops.points-index []))
    (edges_of (drop (c.loops.points-index + 1) c.as_slice-points-items.result.now))
    (sym (ap (λ l. parity_after (spot_of c.args.p.now) c.loops.odd (edges_of_loop l))
    (c.as_slice.ensures ∙ c.points-item.is
    ∙ get_or_default c.as_slice-points-items.result.now c.loops.points-index c.points-item.result []
    c.loops-test.true))
    ∙ sym c.pass_loop.ensures ∙ c.in-Some.is)

pub returns : goal.returns
returns c =
    inside-known (spot_of c.args.p.now) c.args.loops.now c.loops.odd
    (ap (λ l. parity_after (spot_of c.args.p.now) false (edges_of l)) (sym c.as_slice-points-items.ensures)
    ∙ c.loops.invariant
    ∙ ap (λ l. parity_after (spot_of c.args.p.now) c.loops.odd (edges_of l))
    (drop_of_length-le c.as_slice-points-items.result.now c.loops-test.false))
