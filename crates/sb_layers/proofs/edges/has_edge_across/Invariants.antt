use Rattle.std.proofs.Common.{◌≡◌, drop}
use Rattle.std.specs.List.{list_any}
use Rattle.theory_plans.specs.LoopEdges.{edges_of}
use Rattle.sb_model.specs.Labels.{axis_vector}
use Rattle.sb_model.specs.Walks.{is_across}
use Rattle.sb_layers.proofs.edges.has_edge_across.Given as goal

-- no edge of the loops so far stands across
abbrev pub invariant-loops : goal.invariant-loops
invariant-loops l =
    list_any (is_across (axis_vector l.y)) (edges_of l.points-items)
    ≡ list_any (is_across (axis_vector l.y)) (edges_of (drop l.points-index l.points-items))
