-- The edges that were appended and those of the loops that are left are all.
use Rattle.std.proofs.Common.{◌≡◌, ◌++◌, drop, map, IsTrue}
use Rattle.std.specs.List.{list_all}
use Rattle.theory_plans.specs.LoopEdges.{edges_of}
use Rattle.sb_frame.specs.Network.{plan_edges_of}
use Rattle.sb_frame.specs.Owners.{edge_in, is_proper_edge}
use Rattle.sb_frame.proofs.reading.append_loops.Given as goal

abbrev pub invariant-loops : goal.invariant-loops
invariant-loops l = record {
  all : plan_edges_of l.list.items ++ map (edge_in l.number) (edges_of (drop l.points-index l.loops))
      ≡ plan_edges_of l.initial.list.items ++ map (edge_in l.number) (edges_of l.loops);
  proper : IsTrue (list_all is_proper_edge (edges_of (drop l.points-index l.loops)));
}
