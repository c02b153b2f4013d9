-- The corners of closed loops, each with the points before and after it.

use Rattle.std.specs.Prelude.{◌≡◌, List, [], ◌∷◌, ◌++◌}
use Rattle.theory_lists.specs.Members.{AllOfTwo}
use Rattle.theory_numbers.specs.Arrows.{Arrow}
use Rattle.sb_fraction.specs.declared.point.Point.{Point}
use Rattle.theory_loops.specs.Normal.{last_of}
use Rattle.theory_sweep.specs.Passing.{pass_of}

-- a corner: an edge comes from `before`, and one goes on to `after`
pub record Corner : Type 0 where
  pub before : Point
  pub at : Point
  pub after : Point

abbrev pub corner_at : Point → Point → Point → Corner
corner_at before at after = record { before = before; at = at; after = after }

-- the corners at a and the further points, and then on to the first
abbrev pub corners_on : Point → Point → List Point → Point → List Corner
corners_on before a [] first = corner_at before a first ∷ []
corners_on before a (b ∷ points) first = corner_at before a b ∷ corners_on a b points first

-- the corners of a closed loop, in its order
abbrev pub corners_of_loop : List Point → List Corner
corners_of_loop [] = []
corners_of_loop (a ∷ points) = corners_on (last_of a points) a points a

-- the corners of all loops
abbrev pub corners_of : List (List Point) → List Corner
corners_of [] = []
corners_of (points ∷ loops) = corners_of_loop points ++ corners_of loops

-- no two corners are passed together
abbrev pub ArePassedApart : Arrow → List (List Point) → Type 0
ArePassedApart d loops =
    AllOfTwo (λ b c. pass_of d b.at ≡ pass_of d c.at → ⊥) (corners_of loops)
