-- Points dropped from a closed loop in any order, one closed loop read from two of its points, and
-- edges that meet only where they are consecutive.

use Rattle.std.specs.Prelude.{◌≡◌, pos, true, List, [], ◌∷◌, ◌++◌}
use Rattle.sb_fraction.specs.declared.point.Point.{Point}
use Rattle.sb_fraction.specs.Spots.{Spot, IsSpot}
use Rattle.sb_fraction.specs.Edges.{Edge, is_on}
use Rattle.theory_plans.specs.Loops.{bend}
use Rattle.theory_plans.specs.Plans.{is_consecutive}
use Rattle.theory_loops.specs.Normal.{first_of, last_of}

-- the first point of the closed loop lies on one line with its two neighbours, the last point and
-- the second
abbrev pub IsLevelAt : Point → List Point → Type 0
IsLevelAt a points = bend (last_of a points) a (first_of points a) ≡ pos 0

-- the second loop comes of the first: again and again it is begun at its second point, or its first
-- point is dropped, which lies on one line with its two neighbours. So any such point may be dropped
-- at any time
pub data Becomes : List Point → List Point → Type 0 where
  stays : {points : List Point} → Becomes points points
  begins_next : {a : Point} {points left : List Point} → Becomes (points ++ (a ∷ [])) left
      → Becomes (a ∷ points) left
  loses_first : {a : Point} {points left : List Point} → IsLevelAt a points → Becomes points left
      → Becomes (a ∷ points) left

-- the two are one closed loop, read from two of its points
pub record IsSameLoop (xs ys : List Point) : Type 0 where
  pub front : List Point
  pub back : List Point
  pub one : xs ≡ front ++ back
  pub other : ys ≡ back ++ front

-- so are the loops of two lists, each with that at its place
abbrev pub AreSameLoops : List (List Point) → List (List Point) → Type 0
AreSameLoops [] [] = Unit {0}
AreSameLoops [] (ys ∷ others) = ⊥
AreSameLoops (xs ∷ loops) [] = ⊥
AreSameLoops (xs ∷ loops) (ys ∷ others) = IsSameLoop xs ys × AreSameLoops loops others

-- where the two edges have a point in common one of them begins as the other ends
abbrev pub MeetConsecutively : Edge → Edge → Type 0
MeetConsecutively e f =
    (p : Spot) → IsSpot p → is_on p e ≡ true → is_on p f ≡ true → is_consecutive e f ≡ true
