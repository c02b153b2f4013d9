-- The corners of loops in the order in which the line passes them.

use Rattle.std.specs.Prelude.{◌≡◌, ◌<ℤ◌, true, Bool, ℕ, zero, suc, ℤ, negsuc, List, [], ◌∷◌, map}
use Rattle.std.specs.Prelude.{slice_get, length, ◌+◌, ◌<◌, ◌≤◌, slice_index_or}
use Rattle.std.specs.Prelude.{Some}
use Rattle.std.specs.List.{list_all}
use Rattle.std.specs.List.Sorted.{IsPermutation}
use Rattle.theory_lists.specs.Members.{AllOfTwo}
use Rattle.sb_fraction.specs.declared.point.Point.{Point}
use Rattle.sb_fraction.specs.Edges.{edge}
use Rattle.theory_plans.specs.LoopEdges.{edges_of}
use Rattle.theory_plans.specs.Loops.{is_bent_loop, comes_before}
use Rattle.theory_plans.specs.Plans.{are_apart, is_solid_left_of}
use Rattle.theory_sweep.specs.Corners.{Corner, corners_of}
use Rattle.theory_sweep.specs.Open.{AreOpen}
use Rattle.theory_sweep.specs.Passing.{pass_of, sweep_way}
use Rattle.sb_knots.specs.Steps.{is_corner_in_range, edge_at, key_of}

-- the list has the corners of these bent loops, in range, each passed before the ones after it
pub record IsListing (loops : List (List Point)) (corners : List Corner) : Type 0 where
  pub bent : list_all is_bent_loop loops ≡ true
  pub in_range : list_all is_corner_in_range corners ≡ true
  pub are : IsPermutation (corners_of loops) corners
  pub rising : AllOfTwo (λ b c. pass_of sweep_way b.at <ℤ pass_of sweep_way c.at) corners

-- the number at which the line passed the last of the first n corners; where there is none, this
-- one
abbrev pub passed_from : ℤ → List Corner → ℕ → ℤ
passed_from low [] n = low
passed_from low (c ∷ cs) zero = low
passed_from low (c ∷ cs) (suc n) = passed_from (pass_of sweep_way c.at) cs n

-- before the first corner the line stands before all points in range
abbrev pub passed_by : List Corner → ℕ → ℤ
passed_by corners n = passed_from (negsuc 500001000000) corners n

-- of a corner at which two edges begin: whether the solid lies on the left of that to the point
-- after,
-- if the loops are apart
abbrev pub IsSenseAt : List (List Point) → Corner → Bool → Type 0
IsSenseAt loops c left =
    comes_before c.at c.before ≡ true → comes_before c.at c.after ≡ true → are_apart loops ≡ true
    → left ≡ is_solid_left_of (edge c.at c.after) (edges_of loops)

-- what is known of loops once the line has passed n corners: these edges stand, and these are the
-- senses
pub record IsReached (loops : List (List Point)) (corners : List Corner) (n : ℕ) (ids : List ℕ)
    (lefts : List Bool) : Type 0 where
  pub standing : AreOpen sweep_way loops (passed_by corners n) (map (edge_at corners) ids)
  pub senses : (k : ℕ) (c : Corner) (left : Bool) → slice_get corners k ≡ Some c
      → slice_get lefts k ≡ Some left → IsSenseAt loops c left

-- there is an answer for each corner, and it is the sense, where two edges begin
pub record HaveSenses (loops : List (List Point)) (corners : List Corner)
    (lefts : List Bool) : Type 0
  where
    pub count : length lefts ≡ length corners
    pub senses : (k : ℕ) (c : Corner) (left : Bool) → slice_get corners k ≡ Some c
        → slice_get lefts k ≡ Some left → IsSenseAt loops c left

-- no neighbours were found that may not be so, and these answers
pub record IsSwept (loops : List (List Point)) (corners : List Corner) (lefts : List Bool) : Type 0
  where
    pub apart : are_apart loops ≡ true
    pub senses : HaveSenses loops corners lefts

-- a corner is not passed before the next
pub record IsFallen (corners : List Corner) : Type 0 where
  pub at : ℕ
  pub within : at + 1 < length corners
  pub falls : (d : Corner) → key_of (slice_index_or corners (at + 1) d) ≤ key_of
      (slice_index_or corners at d)
