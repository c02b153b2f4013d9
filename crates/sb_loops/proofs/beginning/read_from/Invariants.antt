-- The first points are behind the others.
use Rattle.std.proofs.Common.{◌≡◌, ◌++◌, take}
use Rattle.sb_loops.proofs.beginning.read_from.Given as goal

abbrev pub invariant-loop-b : goal.invariant-loop-b
invariant-loop-b l = l.read ≡ l.initial.read ++ take l.b-index l.b-items
