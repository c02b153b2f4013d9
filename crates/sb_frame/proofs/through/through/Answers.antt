-- The place of an edge that has the crossing inside is put behind, another edge passed over.
use Rattle.std.proofs.Common.{◌+◌, ◌∙◌, sym, subst, List, ℕ}
use Rattle.sb_fraction.specs.Spots.{spot_of}
use Rattle.sb_fraction.specs.Edges.{edge_of, is_within}
use Rattle.sb_frame.specs.declared.edge.PlanEdge.{PlanEdge}
use Rattle.sb_frame.specs.Network.{plan_edge_of}
use Rattle.sb_frame.proofs.Meetings.PlacesThrough.{PlacesTo, place_passed_over, place_put_behind}
use Rattle.sb_frame.proofs.Meetings.PlacesThrough.{places_at_end, places-map}
use Rattle.sb_frame.proofs.through.through.Goals as goal
use Rattle.sb_frame.proofs.through.through.Goals.{then-is_inside+in_ok-push, else-is_inside}

pub edges-preserved : goal.edges-preserved
edges-preserved c =
    elim c.if-is_inside.branch [
      | then-is_inside+in_ok-push w ↦
          subst
          (λ (list : List ℕ).
          PlacesTo (λ (e : PlanEdge). is_within (spot_of c.args.c.point) (edge_of e.segment))
          c.args.edges.now (c.edges.place + 1) list)
          (sym (w.list-is ∙ w.in_ok-push.ensures.ok))
          (place_put_behind (λ (e : PlanEdge). is_within (spot_of c.args.c.point) (edge_of e.segment))
          c.args.edges.now c.edges.place c.edges.list c.index-edges-place.result c.edges.invariant
          c.edges-test.true c.index-edges-place.is (sym c.is_inside.ensures ∙ w.if-is_inside.true))
      | else-is_inside w ↦
          subst
          (λ (list : List ℕ).
          PlacesTo (λ (e : PlanEdge). is_within (spot_of c.args.c.point) (edge_of e.segment))
          c.args.edges.now (c.edges.place + 1) list)
          (sym w.list-is)
          (place_passed_over (λ (e : PlanEdge). is_within (spot_of c.args.c.point) (edge_of e.segment))
          c.args.edges.now c.edges.place c.edges.list c.index-edges-place.result c.edges.invariant
          c.edges-test.true c.index-edges-place.is (sym c.is_inside.ensures ∙ w.if-is_inside.false))
    ]

pub returns : goal.returns
returns c =
    places_at_end (λ (e : PlanEdge). is_within (spot_of c.args.c.point) (edge_of e.segment))
    c.args.edges.now c.edges.place c.edges.list c.edges-test.false c.edges.invariant
    ∙ places-map (λ e. is_within (spot_of c.args.c.point) e.edge) plan_edge_of 0 c.args.edges.now
