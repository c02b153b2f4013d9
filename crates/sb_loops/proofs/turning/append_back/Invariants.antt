-- The last points are appended.
use Rattle.std.proofs.Common.{◌≡◌, ◌++◌, take, reverse}
use Rattle.sb_loops.proofs.turning.append_back.Given as goal

abbrev pub invariant-loop-k : goal.invariant-loop-k
invariant-loop-k l = l.turned ≡ l.initial.turned ++ take l.k (reverse l.points)
