-- The corners in their order: the one that the line passes next, and those that it has passed.

use Rattle.std.proofs.Common.{◌≡◌, ◌⊎◌, inl, inr, refl, sym, ap, ◌∙◌, arith, ℕ, zero, suc, ℤ}
use Rattle.std.proofs.Common.{negsuc}
use Rattle.std.proofs.Common.{◌<ℤ◌, ◌≤ℤ◌, List, [], ◌∷◌, length, slice_get, Some, subst, true}
use Rattle.std.specs.List.{AllByRecursion, list_all}
use Rattle.std.proofs.lemmas.Int.{ints}
use Rattle.std.proofs.lemmas.Bool.{and_parts}
use Rattle.std.proofs.lemmas.List.Sorted.{IsPermutation-sym}
use Rattle.theory_lists.specs.Members.{Stands, AllOfTwo}
use Rattle.theory_lists.proofs.InAnyOrder.{stands_permuted, two_permuted}
use Rattle.theory_lists.proofs.Members.{all_stands, stands_at, two_follow}
use Rattle.sb_fraction.specs.declared.point.Point.{Point}
use Rattle.sb_fraction.specs.Plane.{is_plan_point}
use Rattle.theory_sweep.specs.Corners.{Corner, corners_of, ArePassedApart}
use Rattle.theory_sweep.specs.Open.{IsNext}
use Rattle.theory_sweep.specs.Passing.{pass_of, sweep_way}
use Rattle.theory_sweep.proofs.PassedInOrder.{passed_late}
use Rattle.sb_knots.specs.Listing.{IsListing, passed_from, passed_by}
use Rattle.sb_knots.specs.Steps.{is_corner_in_range}

abbrev Rises : Corner → Corner → Type 0
Rises b c = pass_of sweep_way b.at <ℤ pass_of sweep_way c.at

-- at each place the line has passed some corners, and passes the others later
record IsBetween (passed : ℤ) (cs : List Corner) (c : Corner) : Type 0 where
  after : passed <ℤ pass_of sweep_way c.at
  each : (other : Corner) → Stands other cs
      → (pass_of sweep_way other.at ≤ℤ passed) ⊎
      (pass_of sweep_way c.at ≤ℤ pass_of sweep_way other.at)

low_at_most : (low : ℤ) (cs : List Corner) (n : ℕ)
    → AllByRecursion (λ (c : Corner). low <ℤ pass_of sweep_way c.at) cs → AllOfTwo Rises cs
    → low ≤ℤ passed_from low cs n
low_at_most low [] n late rising = omega (arith, ints)
low_at_most low (c ∷ cs) zero late rising = omega (arith, ints)
low_at_most low (c ∷ cs) (suc n) late rising =
    let rest = low_at_most (pass_of sweep_way c.at) cs n rising.0 rising.1 in
    let first = late.0 in
    omega (arith, ints)

between : (low : ℤ) (cs : List Corner) (n : ℕ) (c : Corner)
    → AllByRecursion (λ (c : Corner). low <ℤ pass_of sweep_way c.at) cs → AllOfTwo Rises cs
    → slice_get cs n ≡ Some c → IsBetween (passed_from low cs n) cs c
between low [] zero c late rising at = absurd cc
between low [] (suc n) c late rising at = absurd cc
between low (b ∷ cs) zero c late rising at =
    let same : b ≡ c = cc in
    record {
      after = subst (λ t. low <ℤ pass_of sweep_way t.at) same late.0;
      each = λ other other_in. from same other other_in;
    }
  where
    from : b ≡ c → (other : Corner) → Stands other (b ∷ cs)
        → (pass_of sweep_way other.at ≤ℤ low) ⊎
        (pass_of sweep_way c.at ≤ℤ pass_of sweep_way other.at)
    from same other (inl one) =
        let equal : pass_of sweep_way c.at ≡ pass_of sweep_way other.at =
        ap (λ t. pass_of sweep_way t.at) (sym same ∙ sym one) in
        inr (omega (arith, ints))
    from same other (inr later) =
        let equal = ap (λ t. pass_of sweep_way t.at) same in
        let more = all_stands (Rises b) other cs rising.0 later in
        inr (omega (arith, ints))
between low (b ∷ cs) (suc n) c late rising at =
    let rest = between (pass_of sweep_way b.at) cs n c rising.0 rising.1 at in
    record {
      after = rest.after;
      each = λ other other_in. from rest (low_at_most
          (pass_of sweep_way b.at) cs n rising.0 rising.1) other other_in;
    }
  where
    from : IsBetween (passed_from (pass_of sweep_way b.at) cs n) cs c
        → pass_of sweep_way b.at ≤ℤ passed_from (pass_of sweep_way b.at) cs n
        → (other : Corner) → Stands other (b ∷ cs)
        → (pass_of sweep_way other.at ≤ℤ passed_from (pass_of sweep_way b.at) cs n)
        ⊎ (pass_of sweep_way c.at ≤ℤ pass_of sweep_way other.at)
    from rest first other (inl one) =
        let equal = ap (λ t. pass_of sweep_way t.at) one in
        inl (omega (arith, ints))
    from rest first other (inr later) = rest.each other later

next_passed : (low : ℤ) (cs : List Corner) (n : ℕ) (c : Corner) → slice_get cs n ≡ Some c
    → passed_from low cs (suc n) ≡ pass_of sweep_way c.at
next_passed low [] zero c at = absurd cc
next_passed low [] (suc n) c at = absurd cc
next_passed low (b ∷ []) zero c at = let same : b ≡ c = cc in ap (λ t. pass_of sweep_way t.at) same
next_passed low (b ∷ d ∷ cs) zero c at = let same : b ≡ c = cc in ap
    (λ t. pass_of sweep_way t.at) same
next_passed low (b ∷ cs) (suc n) c at = next_passed (pass_of sweep_way b.at) cs n c at

all_passed : (low : ℤ) (cs : List Corner) (n : ℕ) → n ≡ length cs
    → AllByRecursion (λ (c : Corner). low <ℤ pass_of sweep_way c.at) cs → AllOfTwo Rises cs
    → AllByRecursion (λ (c : Corner). pass_of sweep_way c.at ≤ℤ passed_from low cs n) cs
all_passed low [] n all late rising = tt
all_passed low (c ∷ cs) zero all late rising = absurd (omega (arith, all))
all_passed low (c ∷ cs) (suc n) all late rising = (
  low_at_most (pass_of sweep_way c.at) cs n rising.0 rising.1,
  all_passed (pass_of sweep_way c.at) cs n (omega (arith, all)) rising.0 rising.1,
)

all_late : (cs : List Corner) → list_all is_corner_in_range cs ≡ true
    → AllByRecursion (λ (c : Corner). negsuc 500001000000 <ℤ pass_of sweep_way c.at) cs
all_late [] all = tt
all_late (c ∷ cs) all =
    let parts = and_parts (is_corner_in_range c) (list_all is_corner_in_range cs) all in (
      passed_late c.at
          (and_parts (is_plan_point c.at) (is_plan_point c.after)
          (and_parts (is_plan_point c.before) _ parts.0).1).0,
      all_late cs parts.1,
    )

module _ (loops : List (List Point)) (corners : List Corner)
    (listing : IsListing loops corners) where
  here : (c : Corner) → Stands c (corners_of loops) → Stands c corners
  here c c_in = stands_permuted c (corners_of loops) corners listing.are c_in

  -- before the first all are still to be passed
  pub first_late : (c : Corner) → Stands c (corners_of loops)
      → passed_by corners 0 <ℤ pass_of sweep_way c.at
  first_late c c_in =
      all_stands (λ (c : Corner). passed_by corners 0 <ℤ pass_of sweep_way c.at) c corners
      (start corners (all_late corners listing.in_range)) (here c c_in)
    where
      start : (cs : List Corner)
          → AllByRecursion (λ (c : Corner). negsuc 500001000000 <ℤ pass_of sweep_way c.at) cs
          → AllByRecursion (λ (c : Corner). passed_by cs 0 <ℤ pass_of sweep_way c.at) cs
      start [] late = tt
      start (c ∷ cs) late = late

  -- each is the next one when those before it are passed
  pub is_next : (k : ℕ) (c : Corner) → slice_get corners k ≡ Some c
      → IsNext sweep_way loops (passed_by corners k) c
  is_next k c at =
      let is = between (negsuc 500001000000) corners k c (all_late corners listing.in_range)
      listing.rising at in
      record {
        stands = stands_permuted c corners (corners_of loops)
            (IsPermutation-sym (corners_of loops) corners listing.are) (stands_at corners k c at);
        after = is.after;
        none = λ other other_in. is.each other (here other other_in);
      }

  -- and is passed then
  pub passed_next : (k : ℕ) (c : Corner) → slice_get corners k ≡ Some c
      → passed_by corners (suc k) ≡ pass_of sweep_way c.at
  passed_next k c at = next_passed (negsuc 500001000000) corners k c at

  -- in the end all are
  pub last_passed : (c : Corner) → Stands c (corners_of loops)
      → pass_of sweep_way c.at ≤ℤ passed_by corners (length corners)
  last_passed c c_in =
      all_stands (λ (c : Corner). pass_of sweep_way c.at ≤ℤ passed_by corners (length corners)) c
      corners
      (all_passed (negsuc 500001000000) corners (length corners) refl
      (all_late corners listing.in_range) listing.rising)
      (here c c_in)

  -- no two are passed together
  pub passed_apart : ArePassedApart sweep_way loops
  passed_apart =
      two_permuted (λ b c. pass_of sweep_way b.at ≡ pass_of sweep_way c.at → ⊥)
      (λ b c other same. other (sym same)) corners (corners_of loops)
      (IsPermutation-sym (corners_of loops) corners listing.are)
      (two_follow Rises (λ b c. pass_of sweep_way b.at ≡ pass_of sweep_way c.at → ⊥) corners
      (λ b c b_in c_in less same. omega (arith, ints, less, same)) listing.rising)

-- a corner of the list is in range
pub range_at : (cs : List Corner) → list_all is_corner_in_range cs ≡ true → (k : ℕ) (c : Corner)
    → slice_get cs k ≡ Some c → is_corner_in_range c ≡ true
range_at [] all zero c at = absurd cc
range_at [] all (suc k) c at = absurd cc
range_at (b ∷ cs) all zero c at =
    let same : b ≡ c = cc in
    sym (ap is_corner_in_range same)
    ∙ (and_parts (is_corner_in_range b) (list_all is_corner_in_range cs) all).0
range_at (b ∷ cs) all (suc k) c at =
    range_at cs (and_parts (is_corner_in_range b) (list_all is_corner_in_range cs) all).1 k c at
