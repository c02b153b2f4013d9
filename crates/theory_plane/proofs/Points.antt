-- A point lies above, under or on a side as its second coordinate does to the side's value.
use Rattle.std.proofs.Common.{◌≡◌, ◌↔◌, ◌∙◌, ap, arith, pos, ◌<ℤ◌, ◌-ℤ◌}
use Rattle.std.proofs.Common.{◌*ℤ◌, true, ◌&&◌}
use Rattle.std.proofs.lemmas.Int.{ints}
use Rattle.std.proofs.lemmas.Bool.{and_parts, and_from}
use Rattle.std.specs.Cmp.{signed_Decides}
use Rattle.theory_numbers.specs.Arrows.{Arrow, cross}
use Rattle.theory_numbers.specs.Rationals.{IsRational, IsBelow, IsSame, is_below}
use Rattle.theory_numbers.proofs.Shapes.{var, plus, minus, times, equal, cross_by, cross_is}
use Rattle.theory_numbers.proofs.Ring.{mul-zero}
use Rattle.theory_numbers.proofs.Signs.{test_less, less_from}
use Rattle.theory_numbers.proofs.Products.{positive_product, positive_factor, zero_of_positive}
use Rattle.theory_numbers.proofs.Products.{negative_product, negative_factor}
use Rattle.theory_numbers.proofs.Vectors.Arrows.{cross-turn}
use Rattle.theory_plane.specs.Sides.{LineSide, value_on}
use Rattle.theory_plane.specs.Points.{FacePoint, IsFacePoint, point_at, abscissa_of, ordinate_of}
use Rattle.theory_plane.specs.Points.{rise, is_above_side, is_under_side, is_on_side}
use Rattle.theory_plane.specs.Regions.{Region, IsInner, is_inside, is_spanned}

-- ---- the tests say the sign of the rise

above_rise : (l : LineSide) (p : FacePoint) → (is_above_side l p ≡ true) ↔ (pos 0 <ℤ rise l p)
above_rise l p = (
  λ answer.
      let order = less_from (l.off *ℤ p.w) ((l.dx *ℤ p.v) -ℤ (l.dy *ℤ p.u)) answer in
      omega (arith, ints),
  λ order. test_less (l.off *ℤ p.w) ((l.dx *ℤ p.v) -ℤ (l.dy *ℤ p.u)) (omega (arith, ints)),
)

under_rise : (l : LineSide) (p : FacePoint) → (is_under_side l p ≡ true) ↔ (rise l p <ℤ pos 0)
under_rise l p = (
  λ answer.
      let order = less_from ((l.dx *ℤ p.v) -ℤ (l.dy *ℤ p.u)) (l.off *ℤ p.w) answer in
      omega (arith, ints),
  λ order. test_less ((l.dx *ℤ p.v) -ℤ (l.dy *ℤ p.u)) (l.off *ℤ p.w) (omega (arith, ints)),
)

on_rise : (l : LineSide) (p : FacePoint) → (is_on_side l p ≡ true) ↔ (rise l p ≡ pos 0)
on_rise l p = (
  λ answer.
      let order = (signed_Decides ((l.dx *ℤ p.v) -ℤ (l.dy *ℤ p.u)) (l.off *ℤ p.w)).0 answer in
      omega (arith, ints),
  λ order.
      (signed_Decides ((l.dx *ℤ p.v) -ℤ (l.dy *ℤ p.u)) (l.off *ℤ p.w)).1 (omega (arith, ints)),
)

-- ---- the rise of a point is the distance from the side's value, up to the denominator

cross-rise : (l : LineSide) (p : FacePoint)
    → cross (value_on l (abscissa_of p)) (ordinate_of p) ≡ p.w *ℤ rise l p
unfolding value_on
cross-rise l p =
    equal
    (cross_by (value_on l (abscissa_of p)) (ordinate_of p) (times (var l.dx) (var p.w))
    (plus (times (var l.dy) (var p.u)) (times (var l.off) (var p.w)))
    (var p.w) (var p.v))
    (times (var p.w)
    (minus (minus (times (var l.dx) (var p.v)) (times (var l.dy) (var p.u)))
    (times (var l.off) (var p.w))))
    (omega arith)

rise-point_at : (l : LineSide) (u v : Arrow)
    → rise l (point_at u v) ≡ cross (value_on l u) v
unfolding value_on
rise-point_at l u v =
    equal
    (minus
    (minus (times (var l.dx) (times (var v.y) (var u.x)))
    (times (var l.dy) (times (var u.y) (var v.x))))
    (times (var l.off) (times (var u.x) (var v.x))))
    (cross_by (value_on l u) v (times (var l.dx) (var u.x))
    (plus (times (var l.dy) (var u.y)) (times (var l.off) (var u.x)))
    (var v.x) (var v.y))
    (omega arith)

-- ---- so the tests compare two rational numbers

module _ (l : LineSide) (p : FacePoint) (p_in : IsFacePoint p) where
  -- above the side: its value lies below the point's second coordinate
  pub above_is : (is_above_side l p ≡ true) ↔ IsBelow (value_on l (abscissa_of p)) (ordinate_of p)
  above_is = (
    λ answer.
        rw (cross-rise l p) (positive_product p.w (rise l p) p_in ((above_rise l p).0 answer)),
    λ order.
        (above_rise l p).1 (positive_factor p.w (rise l p) p_in (rw (cross-rise l p) at order)),
  )

  -- under the side: its value lies above
  pub under_is : (is_under_side l p ≡ true) ↔ IsBelow (ordinate_of p) (value_on l (abscissa_of p))
  under_is =
      let turn = cross-turn (value_on l (abscissa_of p)) (ordinate_of p) in
      let same = cross-rise l p in (
        λ answer.
            let low = negative_product p.w (rise l p) p_in ((under_rise l p).0 answer) in
            omega (arith, ints),
        λ order.
            (under_rise l p).1 (negative_factor p.w (rise l p) p_in (omega (arith, ints))),
      )

  -- on the side: they are the same number
  pub on_is : (is_on_side l p ≡ true) ↔ IsSame (value_on l (abscissa_of p)) (ordinate_of p)
  on_is = (
    λ answer. cross-rise l p ∙ ap (λ n. p.w *ℤ n) ((on_rise l p).0 answer) ∙ mul-zero p.w,
    λ order. (on_rise l p).1 (zero_of_positive p.w (rise l p) p_in (rw (cross-rise l p) at order)),
  )

-- at the point (u, v) the first test compares v with the value at u
pub above_at : (l : LineSide) (u v : Arrow)
    → (is_above_side l (point_at u v) ≡ true) ↔ IsBelow (value_on l u) v
above_at l u v = (
  λ answer. rw (rise-point_at l u v) at ((above_rise l (point_at u v)).0 answer),
  λ order. (above_rise l (point_at u v)).1 (rw (rise-point_at l u v) order),
)

-- and so is the test from below
pub under_at : (l : LineSide) (u v : Arrow)
    → (is_under_side l (point_at u v) ≡ true) ↔ IsBelow v (value_on l u)
under_at l u v =
    let turn = cross-turn (value_on l u) v in
    let same = rise-point_at l u v in (
      λ answer. let low = (under_rise l (point_at u v)).0 answer in omega (arith, ints),
      λ order. (under_rise l (point_at u v)).1 (omega (arith, ints)),
    )

-- and the test on it
pub on_at : (l : LineSide) (u v : Arrow)
    → (is_on_side l (point_at u v) ≡ true) ↔ IsSame (value_on l u) v
on_at l u v = (
  λ answer. rw (rise-point_at l u v) at ((on_rise l (point_at u v)).0 answer),
  λ same. (on_rise l (point_at u v)).1 (rw (rise-point_at l u v) same),
)

-- ---- inner points of a region

cross-abscissa_of : (r u v : Arrow) → cross r (abscissa_of (point_at u v)) ≡ v.x *ℤ cross r u
cross-abscissa_of r u v =
    equal
    (cross_by r (abscissa_of (point_at u v)) (var r.x) (var r.y) (times (var u.x) (var v.x))
    (times (var u.y) (var v.x)))
    (times (var v.x) (cross_is r u))
    (omega arith)

abscissa_of-cross : (r u v : Arrow) → cross (abscissa_of (point_at u v)) r ≡ v.x *ℤ cross u r
abscissa_of-cross r u v =
    equal
    (cross_by (abscissa_of (point_at u v)) r (times (var u.x) (var v.x)) (times (var u.y) (var v.x))
    (var r.x) (var r.y))
    (times (var v.x) (cross_is u r))
    (omega arith)

module _ (p : Region) (u v : Arrow) (v_in : IsRational v) where
  -- the test says so
  pub inner_from : is_inside p (point_at u v) ≡ true → IsInner p u v
  inner_from answer =
      let point = point_at u v in
      let parts =
      and_parts (is_spanned p (abscissa_of point))
      (is_above_side p.lower point && is_under_side p.upper point) answer
      in
      let ends =
      and_parts (is_below p.low (abscissa_of point)) (is_below (abscissa_of point) p.high) parts.0
      in
      let sides = and_parts (is_above_side p.lower point) (is_under_side p.upper point) parts.1 in
      let low = less_from (pos 0) (cross p.low (abscissa_of point)) ends.0 in
      let high = less_from (pos 0) (cross (abscissa_of point) p.high) ends.1 in
      record {
        after =
            positive_factor v.x (cross p.low u) v_in (rw (cross-abscissa_of p.low u v) at low);
        before =
            positive_factor v.x (cross u p.high) v_in (rw (abscissa_of-cross p.high u v) at high);
        above = (above_at p.lower u v).0 sides.0;
        under = (under_at p.upper u v).0 sides.1;
      }

  -- and every inner point passes it
  pub inner_passes : IsInner p u v → is_inside p (point_at u v) ≡ true
  inner_passes inner =
      let point = point_at u v in
      and_from (is_spanned p (abscissa_of point))
      (is_above_side p.lower point && is_under_side p.upper point)
      (and_from (is_below p.low (abscissa_of point)) (is_below (abscissa_of point) p.high)
      (test_less (pos 0) (cross p.low (abscissa_of point))
      (rw (cross-abscissa_of p.low u v) (positive_product v.x (cross p.low u) v_in inner.after)))
      (test_less (pos 0) (cross (abscissa_of point) p.high)
      (rw (abscissa_of-cross p.high u v)
      (positive_product v.x (cross u p.high) v_in inner.before))))
      (and_from (is_above_side p.lower point) (is_under_side p.upper point)
      ((above_at p.lower u v).1 inner.above) ((under_at p.upper u v).1 inner.under))
