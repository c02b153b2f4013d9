-- The edges that were read and those of the products that are left are all.
use Rattle.std.proofs.Common.{◌≡◌, ◌++◌, length}
use Rattle.sb_model.specs.PlanEdges.{plan_edges, edges_in, in_order}
use Rattle.sb_frame.specs.Network.{plan_edges_of}
use Rattle.sb_frame.specs.Owners.{products_in}
use Rattle.sb_frame.proofs.reading.plan_edges.Given as goal

abbrev pub invariant-owners : goal.invariant-owners
invariant-owners l =
    plan_edges_of l.list.items ++ edges_in (in_order (products_in l.queue)) ≡ plan_edges l.model

abbrev pub decreases-owners : goal.decreases-owners
decreases-owners l = length (products_in l.queue)
