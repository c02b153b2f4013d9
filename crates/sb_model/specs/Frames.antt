-- Frames: a turn and a shift.

use Rattle.std.specs.Prelude.{ℕ, ℤ, ◌≤◌, pos, ◌+ℤ◌, ◌^◌, Bool, nat_le, unsigned_abs, List, [], ◌∷◌}
use Rattle.std.specs.List.{list_all}
use Rattle.sb_fraction.specs.Spots.{Vector, vector}
use Rattle.sb_model.specs.declared.frame.Way.{Way}
use Rattle.theory_turns.specs.Turns.{Quarter, turned_by}

-- three numbers as a vector
abbrev pub vector_of : List ℤ → Vector
vector_of (x ∷ y ∷ z ∷ []) = vector x y z
vector_of _ = vector (pos 0) (pos 0) (pos 0)

-- and a vector as three numbers
abbrev pub numbers_of : Vector → List ℤ
numbers_of v = v.x ∷ v.y ∷ v.z ∷ []

-- the sum of two vectors
abbrev pub sum_of : Vector → Vector → Vector
sum_of a b = vector (a.x +ℤ b.x) (a.y +ℤ b.y) (a.z +ℤ b.z)

-- where a frame takes a point: the point turned, and then shifted
abbrev pub placed_by : Quarter → List ℤ → List ℤ → List ℤ
placed_by turn shift p = numbers_of (sum_of (turned_by turn (vector_of p)) (vector_of shift))

-- the greatest size of a number that a frame is given, in nanometres
abbrev pub greatest_framed : ℕ
greatest_framed = 10 ^ 18

-- each number is at most 10^18 in size
abbrev pub are_framed : List ℤ → Bool
are_framed numbers = list_all (λ z. nat_le (unsigned_abs z) greatest_framed) numbers

-- the vector of the three numbers that the code keeps
abbrev pub way_of : Way → Vector
way_of w = vector w.x w.y w.z

-- the coordinates of a vector are at most so great in size
pub record IsWithin (size : ℕ) (v : Vector) : Type 0 where
  pub of_x : unsigned_abs v.x ≤ size
  pub of_y : unsigned_abs v.y ≤ size
  pub of_z : unsigned_abs v.z ≤ size
