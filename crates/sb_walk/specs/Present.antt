-- The products that are present in a gap, by their numbers.

use Rattle.std.specs.Prelude.{◌≡◌, ℕ, ◌<◌, ◌≤◌, ◌==◌, Bool, List, length, get_or}
use Rattle.std.specs.List.{list_any}
use Rattle.theory_lists.specs.Members.{AllOfTwo}
use Rattle.theory_lists.specs.Parity.{differ}
use Rattle.sb_model.specs.PlanEdges.{PlanEdge}
use Rattle.theory_gaps.specs.Gaps.{is_present}

-- the numbers rise
abbrev pub Rise : List ℕ → Type 0
Rise = AllOfTwo (λ j k. j < k)

-- the number is one of these
abbrev pub is_one_of : List ℕ → ℕ → Bool
is_one_of list n = list_any (λ k. k == n) list

-- the numbers rise, and a number is one of them exactly where its product is present behind these edges
pub record ArePresent (passed : List PlanEdge) (list : List ℕ) : Type 0 where
  pub rise : Rise list
  pub each : (n : ℕ) → is_one_of list n ≡ is_present passed n

-- the new numbers rise, and k is one of them exactly where it is none of the old ones; nothing else changes
pub record IsTurned (k : ℕ) (old new : List ℕ) : Type 0 where
  pub rise : Rise new
  pub each : (n : ℕ) → is_one_of new n ≡ differ (is_one_of old n) (k == n)

-- ---- steps

-- the number stands at this place
pub record IsPlaceOf (k : ℕ) (list : List ℕ) (i : ℕ) : Type 0 where
  pub within : i < length list
  pub is : get_or list i 0 ≡ k

-- those before this place are less than the number, and those behind it greater
pub record IsPlaceFor (k : ℕ) (list : List ℕ) (i : ℕ) : Type 0 where
  pub within : i ≤ length list
  pub before : (j : ℕ) → j < i → get_or list j 0 < k
  pub behind : (j : ℕ) → i ≤ j → j < length list → k < get_or list j 0
