use Rattle.std.proofs.Common.{◌≡◌, None, drop}
use Rattle.std.specs.Option.{option_map}
use Rattle.sb_fraction.specs.Edges.{edge}
use Rattle.theory_plans.specs.LoopEdges.{edges_back}
use Rattle.sb_layers.specs.Longest.{longest_after}
use Rattle.sb_layers.proofs.edges.longest_from.Given as goal

-- the best so far goes before the edges that are left
abbrev pub invariant-points : goal.invariant-points
invariant-points l =
    longest_after None (edges_back l.first l.rest l.first)
    ≡ longest_after (option_map (λ e. edge e.0 e.1) l.best)
    (edges_back l.last (drop l.point-index l.rest) l.first)
