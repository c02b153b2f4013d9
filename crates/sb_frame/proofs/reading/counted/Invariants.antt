-- What is counted and what is left are all, and what is counted is not too much.
use Rattle.std.proofs.Common.{◌≡◌, ◌+◌, ◌≤◌, drop, length}
use Rattle.theory_plans.specs.LoopEdges.{edges_of}
use Rattle.sb_frame.proofs.reading.counted.Given as goal

abbrev pub invariant-loops : goal.invariant-loops
invariant-loops l = record {
  within : l.count ≤ l.most;
  all : l.count + length (edges_of (drop l.points-index l.loops)) ≡ l.before + length (edges_of l.loops);
}
