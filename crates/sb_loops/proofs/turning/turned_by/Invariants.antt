-- The first loops are turned.
use Rattle.std.proofs.Common.{◌≡◌, take}
use Rattle.sb_loops.specs.Answers.{turned_by}
use Rattle.sb_loops.proofs.turning.turned_by.Given as goal

abbrev pub invariant-loop-k : goal.invariant-loop-k
invariant-loop-k l = l.turned ≡ turned_by (take l.k l.senses) (take l.k l.loops)
