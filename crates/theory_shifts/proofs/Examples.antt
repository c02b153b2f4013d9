-- Worked loops that are moved.
use Rattle.std.proofs.Common.{◌≡◌, pos, List, [], ◌∷◌, refl}
use Rattle.std.specs.Prelude.{neg_ℤ}
use Rattle.theory_numbers.specs.Arrows as arrows
use Rattle.theory_numbers.specs.Arrows.{arrow}
use Rattle.theory_plans.specs.Rectangles.{corner, rectangle}
use Rattle.theory_loops.specs.Answers.{plan_of}
use Rattle.theory_shifts.specs.Shifts.{moved_loops}

-- a square of a metre, handed in clockwise and moved by 2 m and -1 m
square_moved : plan_of (moved_loops (arrow (pos 2000) (neg_ℤ (pos 1000)))
    ((corner (pos 0) (pos 0) ∷ corner (pos 0) (pos 1000) ∷ corner (pos 1000) (pos 1000) ∷ corner (pos 1000) (pos 0) ∷ []) ∷ []))
    ≡ rectangle (pos 2000) (pos 3000) (neg_ℤ (pos 1000)) (pos 0) ∷ []
unfolding arrows.cross
square_moved = refl
