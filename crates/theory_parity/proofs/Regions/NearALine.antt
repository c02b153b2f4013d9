-- A way that is parallel to none of finitely many lines leads from a point of a line to its two
-- sides.

use Rattle.std.proofs.Common.{◌≡◌, sym, ap, ◌∙◌, ◌⊎◌, inl, inr, arith, ℤ, pos, neg_ℤ}
use Rattle.std.proofs.Common.{◌<ℤ◌, ◌+ℤ◌, ◌*ℤ◌, int_lt}
use Rattle.std.proofs.Common.{List, map}
use Rattle.std.specs.List.{AllByRecursion}
use Rattle.std.proofs.lemmas.Int.{ints}
use Rattle.theory_lists.proofs.Members.{all_follow, all_of_images, all_images}
use Rattle.theory_numbers.specs.Arrows.{Arrow, arrow, cross, opposite}
use Rattle.theory_numbers.specs.Rationals.{IsForm, IsBelow, value_at}
use Rattle.theory_numbers.specs.Intervals.{avoiding}
use Rattle.theory_numbers.proofs.Fractions.Avoid.{avoiding_is, IsOffZero}
use Rattle.theory_numbers.proofs.Shapes.{var, num, plus, negated, times, equal, cross_by, dot_by}
use Rattle.theory_numbers.proofs.Shapes.{dot_eq}
use Rattle.theory_numbers.proofs.Signs.{sign_cases}
use Rattle.theory_numbers.proofs.Products.{positive_product, negative_product, weak_square}
use Rattle.sb_fraction.specs.declared.point.Point.{Point}
use Rattle.sb_fraction.specs.Spots.{Spot, spot}
use Rattle.theory_plans.specs.Rays.{is_left_of}
use Rattle.theory_numbers.proofs.Multiples.{sign_of_multiple}
use Rattle.theory_parity.specs.Below.{IsWay}
use Rattle.theory_parity.specs.Halves.{Half, IsLine, height_over}
use Rattle.theory_parity.specs.Halves.{half_right_of, on_way}
use Rattle.theory_parity.proofs.FromPointToPoint.Heights.{height-on_way, left_by_height}
use Rattle.theory_parity.proofs.FromPointToPoint.Across.{AreOpposite}

-- ---- ways, as points that are infinitely far

-- where a way leads to
abbrev pub far_along : Arrow → Spot
far_along n = spot n.x n.y (pos 0) (pos 0)

-- the way is not parallel to the line
abbrev pub IsSlanted : Arrow → Half → Type 0
IsSlanted n h = height_over h (far_along n) ≡ pos 0 → ⊥

slope_is : (n : Arrow) (h : Half) → value_at (arrow h.a h.b) n ≡ height_over h (far_along n)
slope_is n h =
    equal (dot_by (arrow h.a h.b) n (var h.a) (var h.b) (var n.x) (var n.y))
    (plus (plus (times (var h.a) (var n.x)) (times (var h.b) (var n.y)))
    (times (var h.c) (num 0)))
    (omega arith)

-- the way back rises as the way falls
pub opposite_slope : (n : Arrow) (h : Half)
    → height_over h (far_along (opposite n)) ≡ neg_ℤ (height_over h (far_along n))
opposite_slope n h =
    equal
    (plus (plus (times (var h.a) (negated (var n.x))) (times (var h.b) (negated (var n.y))))
    (times (var h.c) (num 0)))
    (negated
    (plus (plus (times (var h.a) (var n.x)) (times (var h.b) (var n.y)))
    (times (var h.c) (num 0))))
    (omega arith)

-- a way that is parallel to none of finitely many lines
pub record IsFreeWay (hs : List Half) (n : Arrow) : Type 0 where
  pub way : IsWay n
  pub slanted : AllByRecursion (IsSlanted n) hs

abbrev low : Arrow
low = arrow (pos 1) (pos 0)

abbrev high : Arrow
high = arrow (pos 1) (pos 1)

wide : IsBelow low high
wide =
    let one : cross low high ≡ pos 1 =
    equal (cross_by low high (num 1) (num 0) (num 1) (num 1)) (num 1) (omega arith) in
    omega (arith, ints)

-- there is one
pub free_way : (hs : List Half) → AllByRecursion IsLine hs → (n : Arrow) × IsFreeWay hs n
free_way hs lines =
    let forms = map (λ h. arrow h.a h.b) hs in
    let found =
    avoiding_is low high (omega (arith, ints)) (omega (arith, ints)) wide forms
    (all_images IsForm (λ h. arrow h.a h.b) hs lines)
    in
    let n = avoiding low high forms in
    let square = positive_product n.x n.x found.rational found.rational in
    let other = weak_square n.y in
    let whole = dot_eq n n in (
      n,
      record {
        way = omega (arith, ints);
        slanted =
            all_follow {P = λ h. IsOffZero n (arrow h.a h.b)} {Q = IsSlanted n}
            (λ h apart zero. apart (slope_is n h ∙ zero)) hs
            (all_of_images (IsOffZero n) (λ h. arrow h.a h.b) hs found.apart);
      },
    )

-- ---- near a point, along a way and against it

none_after : (a b : ℤ) → a +ℤ (b *ℤ pos 0) ≡ a
none_after a b = equal (plus (var a) (times (var b) (num 0))) (var a) (omega arith)

none_before : (a b : ℤ) → (a *ℤ pos 0) +ℤ b ≡ b
none_before a b = equal (plus (times (var a) (num 0)) (var b)) (var b) (omega arith)

-- the height on the way to a point of the line
height_to_0 : (h : Half) (m o : Spot) (s : Arrow) → height_over h o ≡ pos 0
    → height_over h (on_way s.x m s.y o) ≡ s.x *ℤ height_over h m
height_to_0 h m o s zero =
    height-on_way h s.x m s.y o
    ∙ ap (λ t. (s.x *ℤ height_over h m) +ℤ (s.y *ℤ t)) zero
    ∙ none_after (s.x *ℤ height_over h m) s.y

-- and on the way from one
height_from_0 : (h : Half) (m o : Spot) (s : Arrow) → height_over h m ≡ pos 0
    → height_over h (on_way s.x m s.y o) ≡ s.y *ℤ height_over h o
height_from_0 h m o s zero =
    height-on_way h s.x m s.y o
    ∙ ap (λ t. (s.x *ℤ t) +ℤ (s.y *ℤ height_over h o)) zero
    ∙ none_before s.x (s.y *ℤ height_over h o)

-- the line through a plan point along the way leads where the way does
along_its_way : (n : Arrow) (a : Point) → height_over (half_right_of n a) (far_along n) ≡ pos 0
along_its_way n a = by (half_right_of n a).c
  where
    by : (c : ℤ) → ((n.y *ℤ n.x) +ℤ (neg_ℤ n.x *ℤ n.y)) +ℤ (c *ℤ pos 0) ≡ pos 0
    by c =
        equal
        (plus (plus (times (var n.y) (var n.x)) (times (negated (var n.x)) (var n.y)))
        (times (var c) (num 0)))
        (num 0) (omega arith)

module _ (m : Spot) (n : Arrow) (s : Arrow) (s_in : pos 0 <ℤ s.x) where
  left_towards : (o : Spot) (a : Point) → height_over (half_right_of n a) o ≡ pos 0
      → is_left_of n (on_way s.x m s.y o) a ≡ is_left_of n m a
  left_towards o a zero =
      ap (int_lt (pos 0))
      (left_by_height n (on_way s.x m s.y o) a ∙ height_to_0 (half_right_of n a) m o s zero)
      ∙ sign_of_multiple s.x (height_over (half_right_of n a) m) s_in
      ∙ sym (ap (int_lt (pos 0)) (left_by_height n m a))

  -- a plan point lies left of the way as seen from each point of it
  pub left_along : (a : Point)
      → is_left_of n (on_way s.x m s.y (far_along n)) a ≡ is_left_of n m a
  left_along a = left_towards (far_along n) a (along_its_way n a)

  -- and of the way back
  pub left_against : (a : Point)
      → is_left_of n (on_way s.x m s.y (far_along (opposite n))) a ≡ is_left_of n m a
  left_against a =
      left_towards (far_along (opposite n)) a
      (opposite_slope n (half_right_of n a) ∙ ap neg_ℤ (along_its_way n a))

-- the two heights beside a point of the line
pub opposite_heights : (h : Half) (m : Spot) (n s t : Arrow) → pos 0 <ℤ s.y → pos 0 <ℤ t.y
    → IsSlanted n h → height_over h m ≡ pos 0
    → AreOpposite (height_over h (on_way s.x m s.y (far_along n)))
    (height_over h (on_way t.x m t.y (far_along (opposite n))))
opposite_heights h m n s t s_up t_up slanted zero =
    from (sign_cases (height_over h (far_along n)))
  where
    at_p : height_over h (on_way s.x m s.y (far_along n)) ≡ s.y *ℤ height_over h (far_along n)
    at_p = height_from_0 h m (far_along n) s zero

    at_q : height_over h (on_way t.x m t.y (far_along (opposite n)))
        ≡ t.y *ℤ neg_ℤ (height_over h (far_along n))
    at_q = height_from_0 h m (far_along (opposite n)) t zero ∙ ap (λ z. t.y *ℤ z) (opposite_slope n h)

    from : ((pos 0 <ℤ height_over h (far_along n)) ⊎ (height_over h (far_along n) ≡ pos 0)) ⊎ (height_over h (far_along n) <ℤ pos 0)
        → AreOpposite (height_over h (on_way s.x m s.y (far_along n)))
        (height_over h (on_way t.x m t.y (far_along (opposite n))))
    from (inl (inl above)) =
        let first = positive_product s.y (height_over h (far_along n)) s_up above in
        let second = negative_product t.y (neg_ℤ (height_over h (far_along n))) t_up (omega (arith, ints)) in
        inl (omega (arith, ints, at_p), omega (arith, ints, at_q))
    from (inl (inr none)) = absurd (slanted none)
    from (inr below) =
        let first = negative_product s.y (height_over h (far_along n)) s_up below in
        let second = positive_product t.y (neg_ℤ (height_over h (far_along n))) t_up (omega (arith, ints)) in
        inr (omega (arith, ints, at_p), omega (arith, ints, at_q))
