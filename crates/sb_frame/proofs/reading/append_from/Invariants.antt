-- The edges that were appended and those that are left are all.
use Rattle.std.proofs.Common.{◌≡◌, ◌++◌, drop, map, IsTrue}
use Rattle.std.specs.List.{list_all}
use Rattle.theory_plans.specs.LoopEdges.{edges_back}
use Rattle.sb_frame.specs.Network.{plan_edges_of}
use Rattle.sb_frame.specs.Owners.{edge_in, is_proper_edge}
use Rattle.sb_frame.proofs.reading.append_from.Given as goal

abbrev pub invariant-points : goal.invariant-points
invariant-points l = record {
  all : plan_edges_of l.list.items
      ++ map (edge_in l.number) (edges_back l.at (drop l.next-index l.others) l.fn.first)
      ≡ plan_edges_of l.initial.list.items
      ++ map (edge_in l.number) (edges_back l.fn.first l.others l.fn.first);
  proper : IsTrue (list_all is_proper_edge (edges_back l.at (drop l.next-index l.others) l.fn.first));
}
