-- The edge that passes the limit is that of what is left, so many places on.
use Rattle.std.proofs.Common.{◌≡◌, ◌-◌, ◌≤◌, length}
use Rattle.sb_model.specs.PlanEdges.{plan_edges, edges_in, in_order}
use Rattle.sb_frame.specs.Network.{product_beyond, most_edges}
use Rattle.sb_frame.specs.Owners.{products_in}
use Rattle.sb_frame.proofs.reading.first_beyond.Given as goal

abbrev pub invariant-owners : goal.invariant-owners
invariant-owners l = record {
  within : l.count ≤ most_edges;
  beyond : product_beyond most_edges (plan_edges l.model)
      ≡ product_beyond (most_edges - l.count) (edges_in (in_order (products_in l.queue)));
}

abbrev pub decreases-owners : goal.decreases-owners
decreases-owners l = length (products_in l.queue)
