-- The stack and what is left to read came of the points, and the way over the stack is bent.
use Rattle.std.proofs.Common.{◌++◌, drop}
use Rattle.std.specs.Bool.{IsTrue}
use Rattle.theory_loops.specs.Orders.{Becomes}
use Rattle.sb_loops.specs.Ways.{is_bent_way}
use Rattle.sb_loops.proofs.straightening.straightened.Given as goal

abbrev pub invariant-loop-b : goal.invariant-loop-b
invariant-loop-b l =
    record {
      becomes : Becomes l.points (l.kept.items ++ drop l.b-index l.points);
      bent : IsTrue (is_bent_way l.kept.items);
    }
