use Rattle.std.proofs.Common.{◌≡◌, drop}
use Rattle.std.specs.List.{list_any}
use Rattle.theory_plans.specs.LoopEdges.{edges_back}
use Rattle.sb_model.specs.Labels.{axis_vector}
use Rattle.sb_model.specs.Walks.{is_across}
use Rattle.sb_layers.proofs.edges.is_any_across.Given as goal

-- none of the edges so far stands across
abbrev pub invariant-points : goal.invariant-points
invariant-points l =
    list_any (is_across (axis_vector l.y)) (edges_back l.first l.rest l.first)
    ≡ list_any (is_across (axis_vector l.y)) (edges_back l.last (drop l.point-index l.rest) l.first)
