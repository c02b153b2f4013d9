-- Two edges cross at their common point, unless an end of one lies there; and where they cross does not
-- depend on how the point is written.

use Rattle.std.proofs.Common.{◌≡◌, ◌⊎◌, inl, inr, sym, ap, ap₂, ◌∙◌, arith, ℤ, pos, ◌<ℤ◌, ◌≤ℤ◌}
use Rattle.std.proofs.Common.{◌+ℤ◌, ◌-ℤ◌, ◌*ℤ◌, true, false, not, ◌&&◌, ◌||◌, int_lt, int_le}
use Rattle.std.specs.Ordering.{int_eq}
use Rattle.std.proofs.lemmas.Int.{ints}
use Rattle.std.proofs.lemmas.Bool.{and_parts, and_from, or_cases, or_parts, false≢true}
use Rattle.std.proofs.lemmas.Bool.Decides.{Decides-int_eq}
use Rattle.theory_numbers.specs.Arrows.{Arrow, dot}
use Rattle.theory_numbers.proofs.Vectors.Lengths.{no_length, some_length, opposite_ways}
use Rattle.theory_numbers.proofs.Ring.{mul_comm, mul-zero, zero-mul}
use Rattle.theory_numbers.proofs.Signs.{less_from, at_most_from, test_less, test_at_most}
use Rattle.sb_fraction.specs.declared.point.Point.{Point}
use Rattle.sb_fraction.specs.declared.point.HPoint.{HPoint}
use Rattle.sb_fraction.specs.Spots.{Spot, spot, spot_of, IsSpot}
use Rattle.sb_fraction.specs.Edges.{Edge, seen_from, turn_at, reach_at, is_on, is_within}
use Rattle.sb_fraction.specs.Crossings.{are_parallel, cross_at}
use Rattle.sb_fraction.specs.Meetings.{IsSamePoint, IsCommon, IsMeeting, AreApart}
use Rattle.theory_plans.specs.Alike.{AreAlike}
use Rattle.theory_plans.proofs.PointsAlike.{same_of_alike, within_sees_no_factor}
use Rattle.sb_frame.specs.Crossings.{IsCrossingOf, CrossNowhere, is_at, is_end}

-- ---- one point, written in two ways

-- the point at height 0
abbrev pub level : Spot → Spot
level p = spot p.x p.y (pos 0) p.w

alike_from_same : (p q : Spot) → IsSamePoint p q → AreAlike (level p) (level q)
alike_from_same p q same =
    record {
      x = mul_comm q.w p.x ∙ same.0 ∙ mul_comm q.x p.w;
      y = mul_comm q.w p.y ∙ same.1 ∙ mul_comm q.y p.w;
      z = mul-zero q.w ∙ sym (mul-zero p.w);
    }

-- whether a point lies strictly inside an edge
pub within_same : (p q : Spot) → IsSpot p → IsSpot q → IsSamePoint p q → (e : Edge)
    → is_within p e ≡ is_within q e
within_same p q p_is q_is same e =
    same_of_alike (λ r. is_within r e) (within_sees_no_factor e) (level p) (level q) p_is q_is
    (alike_from_same p q same)

-- and whether two edges cross there
pub crosses_same : (p q : Spot) → IsSpot p → IsSpot q → IsSamePoint p q → (e f : Edge)
    → cross_at p e f ≡ cross_at q e f
crosses_same p q p_is q_is same e f =
    ap₂ (λ s t. not (are_parallel e f) && (s && t)) (within_same p q p_is q_is same e)
    (within_same p q p_is q_is same f)

-- ---- ends

difference_is_zero : (a b : ℤ) → a ≡ b → a -ℤ b ≡ pos 0
difference_is_zero a b same = omega (arith, ints)

zero_difference : (a b : ℤ) → a -ℤ b ≡ pos 0 → a ≡ b
zero_difference a b none = omega (arith, ints)

-- an end that is p is seen from it nowhere
seen_nowhere : (p : Spot) (a : Point) → is_at p a ≡ true
    → ((seen_from p a).x ≡ pos 0) × ((seen_from p a).y ≡ pos 0)
seen_nowhere p a at =
    let parts = and_parts (int_eq (a.x *ℤ p.w) p.x) (int_eq (a.y *ℤ p.w) p.y) at in (
      difference_is_zero (a.x *ℤ p.w) p.x ((Decides-int_eq (a.x *ℤ p.w) p.x).0 parts.0),
      difference_is_zero (a.y *ℤ p.w) p.y ((Decides-int_eq (a.y *ℤ p.w) p.y).0 parts.1),
    )

-- and one that is not is seen some way off
seen_off : (p : Spot) (a : Point) → is_at p a ≡ false → pos 0 <ℤ dot (seen_from p a) (seen_from p a)
seen_off p a apart =
    some_length (seen_from p a) (λ none.
    let both = no_length (seen_from p a) (omega (arith, ints)) in
    false≢true
    (sym apart
    ∙ and_from (int_eq (a.x *ℤ p.w) p.x) (int_eq (a.y *ℤ p.w) p.y)
    ((Decides-int_eq (a.x *ℤ p.w) p.x).1 (zero_difference (a.x *ℤ p.w) p.x both.0))
    ((Decides-int_eq (a.y *ℤ p.w) p.y).1 (zero_difference (a.y *ℤ p.w) p.y both.1))))

dot_of_zero : (a b : Arrow) → (a.x ≡ pos 0) × (a.y ≡ pos 0) → dot a b ≡ pos 0
unfolding dot
dot_of_zero a b none =
    ap₂ (λ s t. (s *ℤ b.x) +ℤ (t *ℤ b.y)) none.0 none.1
    ∙ ap₂ (λ s t. s +ℤ t) (zero-mul b.x) (zero-mul b.y)

dot_with_zero : (a b : Arrow) → (b.x ≡ pos 0) × (b.y ≡ pos 0) → dot a b ≡ pos 0
unfolding dot
dot_with_zero a b none =
    ap₂ (λ s t. (a.x *ℤ s) +ℤ (a.y *ℤ t)) none.0 none.1
    ∙ ap₂ (λ s t. s +ℤ t) (mul-zero a.x) (mul-zero a.y)

-- no end of an edge lies strictly inside it
within_no_end : (p : Spot) (e : Edge) → is_within p e ≡ true → is_end p e ≡ true → ⊥
within_no_end p e within end = from (or_cases (is_at p e.a) (is_at p e.b) end)
  where
    amid : reach_at e p <ℤ pos 0
    amid =
        less_from (reach_at e p) (pos 0)
        (and_parts (int_eq (turn_at e p) (pos 0)) (int_lt (reach_at e p) (pos 0)) within).1

    from : (is_at p e.a ≡ true) ⊎ (is_at p e.b ≡ true) → ⊥
    from (inl at) =
        let none = dot_of_zero (seen_from p e.a) (seen_from p e.b) (seen_nowhere p e.a at) in
        let less = amid in
        omega (arith, ints)
    from (inr at) =
        let none = dot_with_zero (seen_from p e.a) (seen_from p e.b) (seen_nowhere p e.b at) in
        let less = amid in
        omega (arith, ints)

-- a point on an edge that is none of its ends lies strictly inside
pub within_if_no_end : (p : Spot) (e : Edge) → is_on p e ≡ true → is_end p e ≡ false
    → is_within p e ≡ true
within_if_no_end p e on none =
    let parts = and_parts (int_eq (turn_at e p) (pos 0)) (int_le (reach_at e p) (pos 0)) on in
    let ends = or_parts (is_at p e.a) (is_at p e.b) none in
    and_from (int_eq (turn_at e p) (pos 0)) (int_lt (reach_at e p) (pos 0)) parts.0
    (test_less (reach_at e p) (pos 0)
    (opposite_ways (seen_from p e.a) (seen_from p e.b)
    ((Decides-int_eq (turn_at e p) (pos 0)).0 parts.0)
    (at_most_from (reach_at e p) (pos 0) parts.1) (seen_off p e.a ends.0) (seen_off p e.b ends.1)))

weak : (z : ℤ) → z <ℤ pos 0 → z ≤ℤ pos 0
weak z less = omega (arith, ints)

-- a point strictly inside an edge lies on it
on_if_within : (p : Spot) (e : Edge) → is_within p e ≡ true → is_on p e ≡ true
on_if_within p e within =
    let parts = and_parts (int_eq (turn_at e p) (pos 0)) (int_lt (reach_at e p) (pos 0)) within in
    and_from (int_eq (turn_at e p) (pos 0)) (int_le (reach_at e p) (pos 0)) parts.0
    (test_at_most (reach_at e p) (pos 0)
    (weak (reach_at e p) (less_from (reach_at e p) (pos 0) parts.1)))

-- ---- what a crossing is

-- the three parts of the test
pub record Crosses (p : Spot) (e f : Edge) : Type 0 where
  pub turned : not (are_parallel e f) ≡ true
  pub first : is_within p e ≡ true
  pub second : is_within p f ≡ true

pub crosses_is : (p : Spot) (e f : Edge) → cross_at p e f ≡ true → Crosses p e f
crosses_is p e f crosses =
    let parts = and_parts (not (are_parallel e f)) (is_within p e && is_within p f) crosses in
    let both = and_parts (is_within p e) (is_within p f) parts.1 in
    record { turned = parts.0; first = both.0; second = both.1 }

pub crosses_from : (p : Spot) (e f : Edge) → Crosses p e f → cross_at p e f ≡ true
crosses_from p e f c =
    and_from (not (are_parallel e f)) (is_within p e && is_within p f) c.turned
    (and_from (is_within p e) (is_within p f) c.first c.second)

common_if_crosses : (p : Spot) (e f : Edge) → cross_at p e f ≡ true → IsCommon e f p
common_if_crosses p e f crosses =
    let c = crosses_is p e f crosses in
    record { on_first = on_if_within p e c.first; on_second = on_if_within p f c.second }

-- two edges without a common point, or parallel, cross nowhere
pub apart_cross_nowhere : (e f : Edge) → AreApart e f → CrossNowhere e f
apart_cross_nowhere e f (inl parallel) p p_is crosses =
    false≢true (sym (ap not parallel) ∙ (crosses_is p e f crosses).turned)
apart_cross_nowhere e f (inr none) p p_is crosses = none p p_is (common_if_crosses p e f crosses)

module _ (e f : Edge) (p : HPoint) (meeting : IsMeeting e f p) where
  point_is : IsSpot (spot_of p)
  point_is = less_from (pos 0) p.w p.positive

  -- at their common point they cross, where no end of one lies there
  pub crossing_is : not (are_parallel e f) ≡ true → is_end (spot_of p) e ≡ false
      → is_end (spot_of p) f ≡ false → IsCrossingOf e f (spot_of p)
  crossing_is turned none_e none_f =
      record {
        crosses =
            crosses_from (spot_of p) e f
            (record {
              turned = turned;
              first = within_if_no_end (spot_of p) e meeting.common.on_first none_e;
              second = within_if_no_end (spot_of p) f meeting.common.on_second none_f;
            });
        only = λ q q_is crosses. meeting.only q q_is (common_if_crosses q e f crosses);
      }

  same_there : (q : Spot) → IsSpot q → cross_at q e f ≡ true → cross_at (spot_of p) e f ≡ true
  same_there q q_is crosses =
      sym
      (crosses_same q (spot_of p) q_is point_is
      (meeting.only q q_is (common_if_crosses q e f crosses)) e f)
      ∙ crosses

  -- and nowhere, where one does
  pub end_crosses_nowhere : (is_end (spot_of p) e || is_end (spot_of p) f) ≡ true → CrossNowhere e f
  end_crosses_nowhere end q q_is crosses =
      let c = crosses_is (spot_of p) e f (same_there q q_is crosses) in
      from c (or_cases (is_end (spot_of p) e) (is_end (spot_of p) f) end)
    where
      from : Crosses (spot_of p) e f → (is_end (spot_of p) e ≡ true) ⊎ (is_end (spot_of p) f ≡ true) → ⊥
      from c (inl at) = within_no_end (spot_of p) e c.first at
      from c (inr at) = within_no_end (spot_of p) f c.second at
