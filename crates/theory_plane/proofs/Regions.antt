-- A region is uncrossed exactly where it is at its ends, and open strictly between them; and what
-- is open there is a region.
use Rattle.std.proofs.Common.{◌≡◌, ◌⊎◌, inl, inr, arith, ℤ, pos, ◌<ℤ◌}
use Rattle.std.proofs.Common.{◌≤ℤ◌, Bool, true, false, not, ◌&&◌}
use Rattle.std.proofs.lemmas.Int.{ints}
use Rattle.std.proofs.lemmas.Bool.{and_parts, and_from, not-true, false_from_ne_true}
use Rattle.std.proofs.lemmas.Bool.{not_from_false}
use Rattle.std.specs.Ordering.{int_eq}
use Rattle.std.specs.Cmp.{signed_Decides}
use Rattle.theory_numbers.specs.Arrows.{Arrow, cross, opposite}
use Rattle.theory_numbers.specs.Rationals.{IsRational, IsBelow, IsAtMost, IsSame, is_below}
use Rattle.theory_numbers.specs.Rationals.{value_at, mediant}
use Rattle.theory_numbers.proofs.Signs.{test_less, less_from, test_at_most, at_most_from}
use Rattle.theory_numbers.proofs.Products.{weak_product, weak_factor}
use Rattle.theory_numbers.proofs.Fractions.Rationals.{between, value_at_same, number_cases, below_clash}
use Rattle.theory_numbers.proofs.Fractions.Rationals.{same_sym, mediant-IsRational, mediant_between}
use Rattle.theory_numbers.proofs.Vectors.Arrows.{opposite-dot}
use Rattle.theory_numbers.proofs.Fractions.Clear.{positive_between, weak_at_low, weak_at_high}
use Rattle.theory_plane.specs.Sides.{IsLineSide, clearance, clearance_at}
use Rattle.theory_plane.specs.Regions.{Region, IsRegion, is_region, has_ends, has_sides}
use Rattle.theory_plane.specs.Regions.{is_uncrossed_at, is_uncrossed, meets_once}
use Rattle.theory_numbers.specs.Tests.{is_positive}

-- at its ends a region is uncrossed
at_ends : (p : Region) → IsRegion p
    → (pos 0 ≤ℤ clearance_at p.lower p.upper p.low)
    × (pos 0 ≤ℤ clearance_at p.lower p.upper p.high)
at_ends p r =
    let form = clearance p.lower p.upper in (
      weak_at_low form p.low p.high r.low_in r.high_in r.wide r.uncrossed,
      weak_at_high form p.low p.high r.low_in r.high_in r.wide r.uncrossed,
    )

-- ---- strictly between its ends a region is open

-- its upper side lies strictly above its lower side there
pub open_between : (p : Region) → IsRegion p → (u : Arrow) → IsRational u
    → IsBelow p.low u → IsBelow u p.high → pos 0 <ℤ clearance_at p.lower p.upper u
open_between p r u u_in after before =
    let ends = at_ends p r in
    positive_between (clearance p.lower p.upper) p.low p.high r.wide ends.0 ends.1 r.one_meeting u
    u_in after before

-- ---- and what is open between its ends is a region

-- a form that is above 0 at s is not 0 at a lower and at a greater number
pub not_zero_around : (form r s t : Arrow) → IsBelow r s → IsBelow s t → IsBelow r t
    → pos 0 <ℤ value_at form s → value_at form r ≡ pos 0 → value_at form t ≡ pos 0 → ⊥
not_zero_around form r s t low high whole above at_r at_t =
    let turned_r = opposite-dot form r in
    let turned_s = opposite-dot form s in
    let turned_t = opposite-dot form t in
    let weak =
    between (opposite form) r s t low high whole (omega (arith, ints)) (omega (arith, ints))
    in
    omega (arith, ints)

-- two lines, the upper one strictly above the lower one at each number strictly between the ends
pub region_if_open : (p : Region) → IsRational p.low → IsRational p.high → IsLineSide p.lower
    → IsLineSide p.upper → IsBelow p.low p.high
    → ((u : Arrow) → IsRational u → IsBelow p.low u → IsBelow u p.high
    → pos 0 <ℤ clearance_at p.lower p.upper u)
    → IsRegion p
region_if_open p low_in high_in lower_in upper_in wide clear =
    let form = clearance p.lower p.upper in
    let m = mediant p.low p.high in
    let m_in = mediant-IsRational p.low p.high low_in high_in in
    let inside = mediant_between p.low p.high wide in
    record {
      low_in = low_in;
      high_in = high_in;
      lower_in = lower_in;
      upper_in = upper_in;
      wide = wide;
      uncrossed =
          λ u u_in after before.
          let above = clear u u_in after before in omega (arith, ints);
      one_meeting =
          not_zero_around form p.low m p.high inside.0 inside.1 wide
          (clear m m_in inside.0 inside.1);
    }

-- ---- with its ends taken in it is uncrossed

same_sign : (form r u : Arrow) → IsRational r → IsRational u → IsSame u r
    → pos 0 ≤ℤ value_at form r → pos 0 ≤ℤ value_at form u
same_sign form r u r_in u_in same high =
    let product = weak_product u.x (value_at form r) (omega (arith, ints)) high in
    let equal = value_at_same form u r same in
    weak_factor r.x (value_at form u) r_in (omega (arith, ints))

-- its lower side is nowhere above its upper side from end to end
pub uncrossed_to_ends : (p : Region) → IsRegion p → (u : Arrow) → IsRational u
    → IsAtMost p.low u → IsAtMost u p.high → pos 0 ≤ℤ clearance_at p.lower p.upper u
uncrossed_to_ends p r u u_in after before = from (number_cases p.low u) (number_cases u p.high)
  where
    from : (IsBelow p.low u ⊎ IsSame p.low u) ⊎ IsBelow u p.low
        → (IsBelow u p.high ⊎ IsSame u p.high) ⊎ IsBelow p.high u
        → pos 0 ≤ℤ clearance_at p.lower p.upper u
    from (inr beyond) _ = absurd (below_clash u p.low beyond after)
    from (inl (inl more)) (inl (inl less)) = r.uncrossed u u_in more less
    from (inl (inl more)) (inl (inr same)) =
        same_sign (clearance p.lower p.upper) p.high u r.high_in u_in same (at_ends p r).1
    from (inl (inl more)) (inr beyond) = absurd (below_clash p.high u beyond before)
    from (inl (inr same)) _ =
        same_sign (clearance p.lower p.upper) p.low u r.low_in u_in (same_sym p.low u same)
        (at_ends p r).0

-- ---- the test of the ends decides

not_both : (a b : ℤ) → (a ≡ pos 0 → b ≡ pos 0 → ⊥)
    → not (int_eq a (pos 0) && int_eq b (pos 0)) ≡ true
not_both a b apart =
    not_from_false (int_eq a (pos 0) && int_eq b (pos 0))
    (false_from_ne_true (int_eq a (pos 0) && int_eq b (pos 0))
    (λ answer.
    let parts = and_parts (int_eq a (pos 0)) (int_eq b (pos 0)) answer in
    apart ((signed_Decides a (pos 0)).0 parts.0) ((signed_Decides b (pos 0)).0 parts.1)))

from_not_both : (a b : ℤ) → not (int_eq a (pos 0) && int_eq b (pos 0)) ≡ true
    → a ≡ pos 0 → b ≡ pos 0 → ⊥
from_not_both a b answer first second =
    let both =
    and_from (int_eq a (pos 0)) (int_eq b (pos 0)) ((signed_Decides a (pos 0)).1 first)
    ((signed_Decides b (pos 0)).1 second)
    in
    let none = not-true (int_eq a (pos 0) && int_eq b (pos 0)) answer in
    absurd (clash none both)
  where
    clash : {b : Bool} → b ≡ false → b ≡ true → ⊥
    clash none both = cc

-- what passes the test is a region
pub region_from : (p : Region) → is_region p ≡ true → IsRegion p
region_from p answer =
    let first =
    and_parts (has_ends p)
    (has_sides p && (is_below p.low p.high && (is_uncrossed p && meets_once p))) answer
    in
    let second =
    and_parts (has_sides p) (is_below p.low p.high && (is_uncrossed p && meets_once p)) first.1
    in
    let third = and_parts (is_below p.low p.high) (is_uncrossed p && meets_once p) second.1 in
    let fourth = and_parts (is_uncrossed p) (meets_once p) third.1 in
    let number = and_parts (is_positive p.low.x) (is_positive p.high.x) first.0 in
    let side = and_parts (is_positive p.lower.dx) (is_positive p.upper.dx) second.0 in
    let end = and_parts (is_uncrossed_at p p.low) (is_uncrossed_at p p.high) fourth.0 in
    let wide : IsBelow p.low p.high = less_from (pos 0) (cross p.low p.high) third.0 in
    let form = clearance p.lower p.upper in
    record {
      low_in = less_from (pos 0) p.low.x number.0;
      high_in = less_from (pos 0) p.high.x number.1;
      lower_in = less_from (pos 0) p.lower.dx side.0;
      upper_in = less_from (pos 0) p.upper.dx side.1;
      wide = wide;
      uncrossed =
          λ u u_in after before.
          between form p.low u p.high after before wide
          (at_most_from (pos 0) (value_at form p.low) end.0)
          (at_most_from (pos 0) (value_at form p.high) end.1);
      one_meeting = from_not_both (value_at form p.low) (value_at form p.high) fourth.1;
    }

-- and every region passes it
pub region_passes : (p : Region) → IsRegion p → is_region p ≡ true
region_passes p r =
    and_from (has_ends p)
    (has_sides p && (is_below p.low p.high && (is_uncrossed p && meets_once p))) ends
    (and_from (has_sides p) (is_below p.low p.high && (is_uncrossed p && meets_once p)) sides
    (and_from (is_below p.low p.high) (is_uncrossed p && meets_once p) wide
    (and_from (is_uncrossed p) (meets_once p) uncrossed once)))
  where
    ends : has_ends p ≡ true
    ends =
        and_from (is_positive p.low.x) (is_positive p.high.x) (test_less (pos 0) p.low.x r.low_in)
        (test_less (pos 0) p.high.x r.high_in)

    sides : has_sides p ≡ true
    sides =
        and_from (is_positive p.lower.dx) (is_positive p.upper.dx)
        (test_less (pos 0) p.lower.dx r.lower_in) (test_less (pos 0) p.upper.dx r.upper_in)

    wide : is_below p.low p.high ≡ true
    wide = test_less (pos 0) (cross p.low p.high) r.wide

    uncrossed : is_uncrossed p ≡ true
    uncrossed =
        and_from (is_uncrossed_at p p.low) (is_uncrossed_at p p.high)
        (test_at_most (pos 0) (clearance_at p.lower p.upper p.low) (at_ends p r).0)
        (test_at_most (pos 0) (clearance_at p.lower p.upper p.high) (at_ends p r).1)

    once : meets_once p ≡ true
    once =
        not_both (clearance_at p.lower p.upper p.low) (clearance_at p.lower p.upper p.high)
        r.one_meeting
