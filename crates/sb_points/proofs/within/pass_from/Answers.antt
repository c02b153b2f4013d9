use Rattle.std.proofs.Common.{◌∙◌, sym, ap, drop, get_or, pos, [], ◌∷◌, ◌+◌}
use Rattle.std.proofs.lemmas.List.{drop_more}
use Rattle.std.proofs.Math.ListN.{drop_of_length-le}
use Rattle.sb_fraction.specs.Plane.{is_plan_point}
use Rattle.sb_fraction.specs.Spots.{spot_of}
use Rattle.sb_fraction.specs.Edges.{edge}
use Rattle.theory_plans.specs.LoopEdges.{edges_back}
use Rattle.sb_points.specs.Places.{parity_after}
use Rattle.sb_points.proofs.CrossedAsSeen.{edge-seen, goes-on, passed-at}
use Rattle.sb_points.proofs.within.pass_from.Goals as goal

pub points-preserved : goal.points-preserved
points-preserved c =
    let next = get_or c.args.rest.now c.points.point-index (record { x = pos 0; y = pos 0 }) in
    let known = sym (edge-seen (spot_of c.args.p.now) c.points.last next c.points.odd c.from.result
    c.from-in-points.result c.pass_edge.result c.from.ensures c.from-in-points.ensures
    c.pass_edge.ensures) in (
      passed-at is_plan_point c.args.rest.now c.points.point-index (record { x = pos 0; y = pos 0 })
          c.points-test.true c.requires.rest_in,
      c.points.invariant.1
          ∙ ap (λ l. parity_after (spot_of c.args.p.now) c.points.odd (edges_back c.points.last l c.args.first))
          (drop_more c.args.rest.now c.points.point-index (record { x = pos 0; y = pos 0 }) c.points-test.true)
          ∙ goes-on (spot_of c.args.p.now) c.points.odd c.in_ok-odd.odd (edge c.points.last next ∷ [])
          (edges_back next (drop (c.points.point-index + 1) c.args.rest.now) c.args.first) (known ∙ c.in_ok-odd.was),
    )

pub returns : goal.returns
returns c =
    edge-seen (spot_of c.args.p.now) c.points.last c.args.first c.points.odd c.from-2.result
    c.from-start.result c.pass_edge-2.result c.from-2.ensures c.from-start.ensures c.pass_edge-2.ensures
    ∙ sym (c.points.invariant.1
    ∙ ap (λ l. parity_after (spot_of c.args.p.now) c.points.odd (edges_back c.points.last l c.args.first))
    (drop_of_length-le c.args.rest.now c.points-test.false))
