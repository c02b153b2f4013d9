-- The rest of the row, behind the last edge, tells the answer; and its places are places of edges.
use Rattle.std.proofs.Common.{◌≡◌, ◌∷◌, ◌<◌, length}
use Rattle.std.specs.List.{AllByRecursion}
use Rattle.theory_gaps.specs.Gaps.{edges_at}
use Rattle.sb_frame.specs.Network.{plan_edge_of}
use Rattle.sb_walk.specs.Shared.{share_gap, share_after}
use Rattle.sb_walk.proofs.gaps.share_behind.Given as goal

abbrev pub invariant-order : goal.invariant-order
invariant-order l = record {
  same : share_after l.a l.b (plan_edge_of l.last) l.has_a l.has_b (edges_at l.edges.edges l.rest)
      ≡ share_gap l.a l.b (edges_at l.edges.edges (l.first ∷ l.behind));
  fit : AllByRecursion (λ k. k < length l.edges.edges) l.rest;
}

abbrev pub decreases-order : goal.decreases-order
decreases-order l = length l.rest
