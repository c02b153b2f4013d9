-- Sorted by when they are passed, the corners of loops in range are a listing, or two of them are
-- one
-- point: then the loops are not apart.

use Rattle.std.proofs.Common.{◌≡◌, ◌⊎◌, inl, inr, refl, sym, ap, arith, ℕ, zero, suc, ℤ, pos}
use Rattle.std.proofs.Common.{◌+◌, ◌<◌, ◌≤◌, ◌+ℤ◌, ◌<ℤ◌, ◌≤ℤ◌, unsigned_abs, true, false, List, []}
use Rattle.std.proofs.Common.{◌∷◌}
use Rattle.std.proofs.Common.{length, subst, slice_index_or, ◌&&◌, add-one}
use Rattle.std.proofs.Common.{Option, Some, Vec, Global, Bool}
use Rattle.std.specs.Prelude.{IfSome}
use Rattle.std.specs.List.{list_all, AllByRecursion}
use Rattle.std.specs.List.Sorted.{IsPermutation, IsNonDecreasingBy}
use Rattle.std.proofs.lemmas.Int.{ints}
use Rattle.std.proofs.lemmas.Bool.{and_parts, and_from, false_from_ne_true}
use Rattle.theory_lists.specs.Members.{AllOfTwo, AreOnce}
use Rattle.theory_lists.proofs.InAnyOrder.{all_permuted, two_permuted}
use Rattle.theory_lists.proofs.Blocks.{all-append}
use Rattle.theory_lists.proofs.Members.{two_of_images}
use Rattle.sb_fraction.specs.declared.point.Point.{Point}
use Rattle.sb_fraction.specs.Plane.{is_plan_point}
use Rattle.theory_plans.specs.Loops.{is_bent_loop, comes_before}
use Rattle.theory_plans.specs.Plans.{are_apart}
use Rattle.theory_loops.specs.Normal.{last_of}
use Rattle.theory_loops.proofs.ApartInWords.{apart_is}
use Rattle.theory_sweep.specs.Corners.{Corner, corners_on, corners_of_loop, corners_of}
use Rattle.theory_sweep.specs.Open.{AllNeighbours}
use Rattle.theory_sweep.specs.Passing.{pass_of, sweep_way}
use Rattle.theory_sweep.proofs.EdgesByCorners.{corners-at}
use Rattle.theory_sweep.proofs.NeighboursInOrder.{two_from_neighbours}
use Rattle.theory_sweep.proofs.PassedInOrder.{passed_late, passed_first, one_before}
use Rattle.sb_knots.specs.Listing.{IsListing, IsFallen, IsSwept}
use Rattle.sb_knots.specs.Steps.{is_corner_in_range, key_at, key_of}

-- ---- range

abbrev InRange : Corner → Type 0
InRange c = is_corner_in_range c ≡ true

range_on : (before a : Point) (points : List Point) (first : Point) → is_plan_point before ≡ true
    → is_plan_point a ≡ true → list_all is_plan_point points ≡ true → is_plan_point first ≡ true
    → AllByRecursion InRange (corners_on before a points first)
range_on before a [] first before_in a_in all first_in = (
  and_from (is_plan_point before) (is_plan_point a && is_plan_point first) before_in
      (and_from (is_plan_point a) (is_plan_point first) a_in first_in),
  tt,
)
range_on before a (b ∷ points) first before_in a_in all first_in =
    let parts = and_parts (is_plan_point b) (list_all is_plan_point points) all in (
      and_from (is_plan_point before) (is_plan_point a && is_plan_point b) before_in
          (and_from (is_plan_point a) (is_plan_point b) a_in parts.0),
      range_on a b points first a_in parts.0 parts.1 first_in,
    )

last_in : (a : Point) (points : List Point) → is_plan_point a ≡ true
    → list_all is_plan_point points ≡ true → is_plan_point (last_of a points) ≡ true
last_in a [] a_in all = a_in
last_in a (b ∷ points) a_in all =
    let parts = and_parts (is_plan_point b) (list_all is_plan_point points) all in
    last_in b points parts.0 parts.1

range_of_loop : (points : List Point) → list_all is_plan_point points ≡ true
    → AllByRecursion InRange (corners_of_loop points)
range_of_loop [] all = tt
range_of_loop (a ∷ points) all =
    let parts = and_parts (is_plan_point a) (list_all is_plan_point points) all in
    range_on (last_of a points) a points a
    (last_in a points parts.0 parts.1) parts.0 parts.1 parts.0

range_of : (loops : List (List Point)) → list_all (list_all is_plan_point) loops ≡ true
    → AllByRecursion InRange (corners_of loops)
range_of [] all = tt
range_of (points ∷ loops) all =
    let parts = and_parts (list_all is_plan_point points) (list_all
    (list_all is_plan_point) loops) all in
    all-append InRange (corners_of_loop points) (corners_of loops) (range_of_loop points parts.0)
    (range_of loops parts.1)

pass_all : (cs : List Corner) → AllByRecursion InRange cs → list_all is_corner_in_range cs ≡ true
pass_all [] all = refl
pass_all (c ∷ cs) all =
    and_from (is_corner_in_range c) (list_all is_corner_in_range cs) all.0 (pass_all cs all.1)

pub at_in : (c : Corner) → InRange c → is_plan_point c.at ≡ true
at_in c is =
    (and_parts (is_plan_point c.at) (is_plan_point c.after)
    (and_parts (is_plan_point c.before) _ is).1).0

-- ---- keys

abs_is : (z : ℤ) → pos 0 ≤ℤ z → pos (unsigned_abs z) ≡ z
abs_is z high = omega (arith, ints)

-- the key, of a point in range
pub key_is : (p : Point) → is_plan_point p ≡ true
    → pos (key_at p) ≡ pass_of sweep_way p +ℤ pos 2147487942967296
key_is p p_in =
    let late = passed_late p p_in in
    abs_is (pass_of sweep_way p +ℤ pos 2147487942967296) (omega (arith, ints))

less_by_key : (a b : Point) → is_plan_point a ≡ true → is_plan_point b ≡ true → key_at a < key_at b
    → pass_of sweep_way a <ℤ pass_of sweep_way b
less_by_key a b a_in b_in less =
    let first = key_is a a_in in
    let second = key_is b b_in in
    let whole : pos (key_at a) <ℤ pos (key_at b) = omega (arith, ints) in
    omega (arith, ints)

-- points with one key are one
pub one_by_key : (a b : Point) → is_plan_point a ≡ true → is_plan_point b ≡ true
    → key_at a ≡ key_at b → a ≡ b
one_by_key a b a_in b_in same = from (one_before a b)
  where
    equal : pass_of sweep_way a ≡ pass_of sweep_way b
    equal =
        let first = key_is a a_in in
        let second = key_is b b_in in
        let whole = ap pos same in
        omega (arith, ints)

    from : (a ≡ b) ⊎ ((comes_before a b ≡ true) ⊎ (comes_before b a ≡ true)) → a ≡ b
    from (inl one) = one
    from (inr (inl before)) =
        let less = passed_first a b a_in b_in before in
        let is = equal in
        absurd (omega (arith, ints))
    from (inr (inr after)) =
        let more = passed_first b a b_in a_in after in
        let is = equal in
        absurd (omega (arith, ints))

-- ---- the order

neighbours_rise : (cs : List Corner) → AllByRecursion InRange cs
    → ((j : ℕ) (d : Corner) → suc j < length cs
    → key_of (slice_index_or cs j d) < key_of (slice_index_or cs (suc j) d))
    → AllNeighbours (λ b c. pass_of sweep_way b.at <ℤ pass_of sweep_way c.at) cs
neighbours_rise [] all each = tt
neighbours_rise (c ∷ []) all each = tt
neighbours_rise (b ∷ c ∷ cs) all each = (
  less_by_key b.at c.at (at_in b all.0) (at_in c all.1.0) (each 0 b (omega arith)),
  neighbours_rise (c ∷ cs) all.1 (λ j d within. each (suc j) d (omega (arith, within))),
)

adjacent : {X : Type 0} (R : X → X → Type 0) (xs : List X) (i : ℕ) (d : X) → AllOfTwo R xs
    → suc i < length xs → R (slice_index_or xs i d) (slice_index_or xs (suc i) d)
adjacent R [] i d two within = absurd (omega arith)
adjacent R (x ∷ []) i d two within = absurd (omega arith)
adjacent R (x ∷ y ∷ ys) zero d two within = two.0.0
adjacent R (x ∷ y ∷ ys) (suc i) d two within = adjacent R (y ∷ ys) i d two.1 (omega arith)

all_at : {X : Type 0} (P : X → Type 0) (xs : List X) (i : ℕ) (d : X) → AllByRecursion P xs
    → i < length xs → P (slice_index_or xs i d)
all_at P [] i d all within = absurd (omega arith)
all_at P (x ∷ xs) zero d all within = all.0
all_at P (x ∷ xs) (suc i) d all within = all_at P xs i d all.1 (omega arith)

module _ (loops : List (List Point)) (corners : List Corner)
    (in_range : list_all (list_all is_plan_point) loops ≡ true)
    (are : IsPermutation (corners_of loops) corners) where
  all_in : AllByRecursion InRange corners
  all_in = all_permuted InRange (corners_of loops) corners are (range_of loops in_range)

  -- each passed before the next
  pub listing_is : list_all is_bent_loop loops ≡ true
      → ((j : ℕ) (d : Corner) → j + 1 < length corners
      → key_of (slice_index_or corners j d) < key_of (slice_index_or corners (j + 1) d))
      → IsListing loops corners
  listing_is bent each = record {
    bent = bent;
    in_range = pass_all corners all_in;
    are = are;
    rising = two_from_neighbours InRange (λ b c. pass_of sweep_way b.at <ℤ pass_of sweep_way c.at)
        (λ x y z x_in y_in z_in low high. omega (arith, ints, low, high)) corners all_in
        (neighbours_rise corners all_in
        (λ j d within.
        subst (λ n. key_of (slice_index_or corners j d) < key_of (slice_index_or corners n d))
        (add-one j) (each j d (omega (arith, within)))));
  }

  -- or two at one point
  pub fallen_is : IsNonDecreasingBy key_of corners → IsFallen corners → are_apart loops ≡ false
  fallen_is sorted fallen = false_from_ne_true (are_apart loops) clash
    where
      d : Corner
      d = record {
        before = record { x = pos 0; y = pos 0 };
        at = record { x = pos 0; y = pos 0 };
        after = record { x = pos 0; y = pos 0 };
      }

      within : suc fallen.at < length corners
      within = let w = fallen.within in omega arith

      clash : are_apart loops ≡ true → ⊥
      clash apart =
          adjacent (λ (b c : Corner). b.at ≡ c.at → ⊥) corners fallen.at d
          (two_permuted (λ (b c : Corner). b.at ≡ c.at → ⊥) (λ b c other same. other (sym same))
          (corners_of loops) corners are
          (two_of_images (λ a b. a ≡ b → ⊥) (λ (c : Corner). c.at) (corners_of loops)
          (subst AreOnce (sym (corners-at loops)) ((apart_is loops).0 apart).0)))
          within
          (one_by_key (slice_index_or corners fallen.at d).at
          (slice_index_or corners (suc fallen.at) d).at
          (at_in (slice_index_or corners fallen.at d)
          (all_at InRange corners fallen.at d all_in (let w = fallen.within in omega arith)))
          (at_in (slice_index_or corners (suc fallen.at) d)
          (all_at InRange corners (suc fallen.at) d all_in within))
          (let low = sorted fallen.at (suc fallen.at) d (omega arith) within in
          let high : key_of (slice_index_or corners (suc fallen.at) d)
          ≤ key_of (slice_index_or corners fallen.at d) =
          subst
          (λ n. key_of (slice_index_or corners n d) ≤ key_of (slice_index_or corners fallen.at d))
          (add-one fallen.at) (fallen.falls d) in
          omega (arith, low, high)))

-- ---- the answers

-- those that were swept
pub swept_answers : (loops : List (List Point)) (corners : List Corner)
    (some : Option (Vec Bool Global)) (lefts : Vec Bool Global) → some ≡ Some lefts
    → IfSome some (λ (lefts : Vec Bool Global). (loops : List (List Point))
    → IsListing loops corners → IsSwept loops corners lefts.items)
    → IsListing loops corners → IsSwept loops corners lefts.items
swept_answers loops corners some lefts is swept listing =
    subst
    (λ some. IfSome some (λ (lefts : Vec Bool Global). (loops : List (List Point))
    → IsListing loops corners → IsSwept loops corners lefts.items))
    is swept loops listing
