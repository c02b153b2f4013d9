-- What is left of the first loops.
use Rattle.std.proofs.Common.{take}
use Rattle.sb_loops.specs.Ways.{AreLeft}
use Rattle.sb_loops.proofs.normalising.all_left.Given as goal

abbrev pub invariant-loop-points : goal.invariant-loop-points
invariant-loop-points l = AreLeft (take l.points-index l.points-items) l.lefts
