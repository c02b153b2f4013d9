-- What is left came of the points, and the way over it is bent.
use Rattle.std.proofs.Common.{length}
use Rattle.std.specs.Bool.{IsTrue}
use Rattle.theory_loops.specs.Orders.{Becomes}
use Rattle.sb_loops.specs.Ways.{is_bent_way}
use Rattle.sb_loops.proofs.straightening.closed.Given as goal

abbrev pub invariant-points : goal.invariant-points
invariant-points l =
    record {
      becomes : Becomes l.kept l.left;
      bent : IsTrue (is_bent_way l.left);
    }

abbrev pub decreases-points : goal.decreases-points
decreases-points l = length l.left
