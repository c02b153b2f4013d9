-- The stack came of what it was, whatever stands behind the next point, and is bent.
use Rattle.std.proofs.Common.{◌++◌, ◌∷◌, List, length}
use Rattle.std.specs.Bool.{IsTrue}
use Rattle.sb_fraction.specs.declared.point.Point.{Point}
use Rattle.theory_loops.specs.Orders.{Becomes}
use Rattle.sb_loops.specs.Ways.{is_bent_way}
use Rattle.sb_loops.proofs.straightening.drop_straight.Given as goal

abbrev pub invariant-points : goal.invariant-points
invariant-points l =
    record {
      becomes : (rest : List Point)
          → Becomes (l.initial.kept.items ++ (l.b ∷ rest)) (l.kept.items ++ (l.b ∷ rest));
      bent : IsTrue (is_bent_way l.kept.items);
    }

abbrev pub decreases-points : goal.decreases-points
decreases-points l = length l.kept.items
