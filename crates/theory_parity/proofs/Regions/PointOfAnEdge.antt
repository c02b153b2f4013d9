-- On an edge that passes through an intersection of open half-planes there is a point of the two
-- that is no corner.

use Rattle.std.proofs.Common.{◌≡◌, sym, ap, ap₂, ◌∙◌, ◌⊎◌, inl, inr, arith, ℤ, pos, neg_ℤ}
use Rattle.std.proofs.Common.{◌<ℤ◌, ◌≤ℤ◌, ◌+ℤ◌, ◌-ℤ◌, ◌*ℤ◌, true, int_le, List}
use Rattle.std.specs.Ordering.{int_eq}
use Rattle.std.specs.List.{AllByRecursion}
use Rattle.std.proofs.lemmas.Int.{ints}
use Rattle.std.proofs.lemmas.Bool.{and_parts, and_from}
use Rattle.std.proofs.lemmas.Bool.Decides.{Decides-int_eq}
use Rattle.theory_numbers.specs.Arrows.{Arrow, cross, dot, add, scale}
use Rattle.theory_numbers.proofs.Vectors.Arrows.{same_arrow, cross-turn, cross-self, cross-add, cross-scale}
use Rattle.theory_numbers.proofs.Vectors.Arrows.{scale-cross, dot_comm, dot-add, dot-scale, scale-dot}
use Rattle.theory_numbers.proofs.Shapes.{var, num, plus, minus, negated, times, equal}
use Rattle.theory_numbers.proofs.Signs.{test_at_most, at_most_from, above_or_not}
use Rattle.theory_numbers.proofs.Products.{zero_of_positive, positive_product, weak_product}
use Rattle.theory_numbers.proofs.Products.{weak_negative_product, weak_negative_factor}
use Rattle.theory_numbers.proofs.Ring.{mul-zero, neg-mul}
use Rattle.sb_fraction.specs.declared.point.Point.{Point}
use Rattle.sb_fraction.specs.Spots.{Spot, spot_at, IsSpot}
use Rattle.sb_fraction.specs.Edges.{Edge, span_of, seen_from, turn_at, reach_at, is_on}
use Rattle.theory_parity.specs.Halves.{Half, IsLine, is_in_all, left_half, on_way}
use Rattle.theory_parity.proofs.FromPointToPoint.Heights.{on_way_is}
use Rattle.theory_numbers.proofs.Vectors.Lengths.{weak_length, no_length}
use Rattle.theory_parity.proofs.Regions.NoEdgeInside.{IsNoEnd}
use Rattle.theory_parity.proofs.Regions.AwayFromCorners.{IsOffCorners, off_corners}

-- ---- from a point of an edge towards one of its ends

-- the end is seen in the same direction
seen_end : (m : ℤ) (t : Spot) (n : ℤ) (o : Point)
    → seen_from (on_way m t n (spot_at o)) o ≡ scale m (seen_from t o)
seen_end m t n o =
    same_arrow (seen_from (on_way m t n (spot_at o)) o) (scale m (seen_from t o))
    (by o.x t.x) (by o.y t.y)
  where
    by : (a x : ℤ)
        → (a *ℤ ((m *ℤ t.w) +ℤ (n *ℤ pos 1))) -ℤ ((m *ℤ x) +ℤ (n *ℤ a))
        ≡ m *ℤ ((a *ℤ t.w) -ℤ x)
    by a x =
        equal
        (minus (times (var a) (plus (times (var m) (var t.w)) (times (var n) (num 1))))
        (plus (times (var m) (var x)) (times (var n) (var a))))
        (times (var m) (minus (times (var a) (var t.w)) (var x)))
        (omega arith)

-- and any other plan point by both ways
seen_other : (m : ℤ) (t : Spot) (n : ℤ) (o c : Point)
    → scale t.w (seen_from (on_way m t n (spot_at o)) c)
    ≡ add (scale ((m *ℤ t.w) +ℤ n) (seen_from t c)) (scale (neg_ℤ n) (seen_from t o))
seen_other m t n o c =
    same_arrow (scale t.w (seen_from (on_way m t n (spot_at o)) c))
    (add (scale ((m *ℤ t.w) +ℤ n) (seen_from t c)) (scale (neg_ℤ n) (seen_from t o)))
    (by o.x c.x t.x) (by o.y c.y t.y)
  where
    by : (a b x : ℤ)
        → t.w *ℤ ((b *ℤ ((m *ℤ t.w) +ℤ (n *ℤ pos 1))) -ℤ ((m *ℤ x) +ℤ (n *ℤ a)))
        ≡ (((m *ℤ t.w) +ℤ n) *ℤ ((b *ℤ t.w) -ℤ x)) +ℤ (neg_ℤ n *ℤ ((a *ℤ t.w) -ℤ x))
    by a b x =
        equal
        (times (var t.w)
        (minus (times (var b) (plus (times (var m) (var t.w)) (times (var n) (num 1))))
        (plus (times (var m) (var x)) (times (var n) (var a)))))
        (plus
        (times (plus (times (var m) (var t.w)) (var n)) (minus (times (var b) (var t.w)) (var x)))
        (times (negated (var n)) (minus (times (var a) (var t.w)) (var x))))
        (omega arith)

-- a point between t and o is between c and o where t is
module _ (m : ℤ) (t : Spot) (n : ℤ) (o c : Point) (t_is : IsSpot t) (m_in : pos 0 <ℤ m)
    (n_in : pos 0 <ℤ n) (level : cross (seen_from t o) (seen_from t c) ≡ pos 0)
    (near : dot (seen_from t o) (seen_from t c) ≤ℤ pos 0) where
  still_on_line : cross (seen_from (on_way m t n (spot_at o)) o)
      (seen_from (on_way m t n (spot_at o)) c) ≡ pos 0
  still_on_line =
      let p = seen_from t o in
      let q = seen_from t c in
      let k = (m *ℤ t.w) +ℤ n in
      let there = seen_from (on_way m t n (spot_at o)) c in
      let none : cross p (add (scale k q) (scale (neg_ℤ n) p)) ≡ pos 0 =
      cross-add p (scale k q) (scale (neg_ℤ n) p)
      ∙ ap₂ (λ x y. x +ℤ y) (cross-scale k p q ∙ ap (λ z. k *ℤ z) level ∙ mul-zero k)
      (cross-scale (neg_ℤ n) p p ∙ ap (λ z. neg_ℤ n *ℤ z) (cross-self p) ∙ mul-zero (neg_ℤ n)) in
      zero_of_positive t.w (cross (seen_from (on_way m t n (spot_at o)) o) there) t_is
      (sym (cross-scale t.w (seen_from (on_way m t n (spot_at o)) o) there)
      ∙ ap₂ cross (seen_end m t n o) (seen_other m t n o c)
      ∙ scale-cross m p (add (scale k q) (scale (neg_ℤ n) p))
      ∙ ap (λ z. m *ℤ z) none ∙ mul-zero m)

  still_near : dot (seen_from (on_way m t n (spot_at o)) o)
      (seen_from (on_way m t n (spot_at o)) c) ≤ℤ pos 0
  still_near =
      let p = seen_from t o in
      let q = seen_from t c in
      let k = (m *ℤ t.w) +ℤ n in
      let there = seen_from (on_way m t n (spot_at o)) c in
      let sum : dot p (add (scale k q) (scale (neg_ℤ n) p))
      ≡ (k *ℤ dot p q) +ℤ (neg_ℤ n *ℤ dot p p) =
      dot-add p (scale k q) (scale (neg_ℤ n) p)
      ∙ ap₂ (λ x y. x +ℤ y) (dot-scale k p q) (dot-scale (neg_ℤ n) p p) in
      let wide = positive_product m t.w m_in t_is in
      let one = weak_negative_product k (dot p q) (omega (arith, ints)) near in
      let other = weak_product n (dot p p) (omega (arith, ints)) (weak_length p) in
      let turned = neg-mul n (dot p p) in
      let low =
      weak_negative_product m (dot p (add (scale k q) (scale (neg_ℤ n) p))) (omega (arith, ints))
      (omega (arith, ints)) in
      let whole : t.w *ℤ dot (seen_from (on_way m t n (spot_at o)) o) there
      ≡ m *ℤ dot p (add (scale k q) (scale (neg_ℤ n) p)) =
      sym (dot-scale t.w (seen_from (on_way m t n (spot_at o)) o) there)
      ∙ ap₂ dot (seen_end m t n o) (seen_other m t n o c)
      ∙ scale-dot m p (add (scale k q) (scale (neg_ℤ n) p)) in
      weak_negative_factor t.w (dot (seen_from (on_way m t n (spot_at o)) o) there) t_is
      (omega (arith, ints))

-- ---- a point of the edge that is no corner

-- a point of the edge and of the half-planes, no end of any of the edges
pub record IsPlain (halves : List Half) (es : List Edge) (e : Edge) (m : Spot) : Type 0 where
  pub is : IsSpot m
  pub inside : is_in_all halves m ≡ true
  pub on : is_on m e ≡ true
  pub no_corner : AllByRecursion (IsNoEnd m) es

module _ (halves : List Half) (es : List Edge) (e : Edge) (t : Spot) (t_is : IsSpot t)
    (line : IsLine (left_half e)) (at : is_in_all halves t ≡ true) (on : is_on t e ≡ true) where
  level_there : turn_at e t ≡ pos 0
  level_there =
      (Decides-int_eq (turn_at e t) (pos 0)).0
      (and_parts (int_eq (turn_at e t) (pos 0)) (int_le (reach_at e t) (pos 0)) on).0

  near_there : reach_at e t ≤ℤ pos 0
  near_there =
      at_most_from (reach_at e t) (pos 0)
      (and_parts (int_eq (turn_at e t) (pos 0)) (int_le (reach_at e t) (pos 0)) on).1

  on_from : (m : Spot) → turn_at e m ≡ pos 0 → reach_at e m ≤ℤ pos 0 → is_on m e ≡ true
  on_from m level near =
      and_from (int_eq (turn_at e m) (pos 0)) (int_le (reach_at e m) (pos 0))
      ((Decides-int_eq (turn_at e m) (pos 0)).1 level) (test_at_most (reach_at e m) (pos 0) near)

  towards_a : pos 0 <ℤ dot (seen_from t e.a) (seen_from t e.a)
      → (m : Spot) × IsPlain halves es e m
  towards_a long =
      from
      (off_corners (seen_from t e.a) t e.a halves es long (λ zero. omega (arith, ints)) at)
    where
      from : (s : Arrow) × IsOffCorners t e.a halves es s → (m : Spot) × IsPlain halves es e m
      from (s, off) = (
        on_way s.x t s.y (spot_at e.a),
        record {
          is =
              on_way_is s.x t s.y (spot_at e.a) t_is (omega (arith, ints))
              (omega (arith, ints, off.rational)) (omega (arith, ints, off.up))
              (omega (arith, ints, off.rational, off.up));
          inside = off.inside;
          on =
              on_from (on_way s.x t s.y (spot_at e.a))
              (still_on_line s.x t s.y e.a e.b t_is off.rational off.up level_there near_there)
              (still_near s.x t s.y e.a e.b t_is off.rational off.up level_there near_there);
          no_corner = off.no_corner;
        },
      )

  towards_b : pos 0 <ℤ dot (seen_from t e.b) (seen_from t e.b)
      → (m : Spot) × IsPlain halves es e m
  towards_b long =
      from
      (off_corners (seen_from t e.b) t e.b halves es long (λ zero. omega (arith, ints)) at)
    where
      level : cross (seen_from t e.b) (seen_from t e.a) ≡ pos 0
      level =
          let turned = cross-turn (seen_from t e.a) (seen_from t e.b) in
          let there = level_there in
          omega (arith, ints)

      near : dot (seen_from t e.b) (seen_from t e.a) ≤ℤ pos 0
      near =
          let same = dot_comm (seen_from t e.b) (seen_from t e.a) in
          let there = near_there in
          omega (arith, ints)

      from : (s : Arrow) × IsOffCorners t e.b halves es s → (m : Spot) × IsPlain halves es e m
      from (s, off) =
          let m = on_way s.x t s.y (spot_at e.b) in
          let first = still_on_line s.x t s.y e.b e.a t_is off.rational off.up level near in
          let second = still_near s.x t s.y e.b e.a t_is off.rational off.up level near in
          let turned = cross-turn (seen_from m e.b) (seen_from m e.a) in
          let same = dot_comm (seen_from m e.a) (seen_from m e.b) in (
            m,
            record {
              is =
                  on_way_is s.x t s.y (spot_at e.b) t_is (omega (arith, ints))
                  (omega (arith, ints, off.rational)) (omega (arith, ints, off.up))
                  (omega (arith, ints, off.rational, off.up));
              inside = off.inside;
              on = on_from m (omega (arith, ints)) (omega (arith, ints));
              no_corner = off.no_corner;
            },
          )

  one_is_long : dot (seen_from t e.a) (seen_from t e.a) ≤ℤ pos 0
      → dot (seen_from t e.b) (seen_from t e.b) ≤ℤ pos 0 → ⊥
  one_is_long short_a short_b =
      let a = no_length (seen_from t e.a) short_a in
      let b = no_length (seen_from t e.b) short_b in
      let x = zero_of_positive t.w (span_of e).x t_is
      (differences e.a.x e.b.x t.x a.0 b.0) in
      let y = zero_of_positive t.w (span_of e).y t_is
      (differences e.a.y e.b.y t.y a.1 b.1) in
      line (ap neg_ℤ y, x)
    where
      differences : (a b x : ℤ) → (a *ℤ t.w) -ℤ x ≡ pos 0 → (b *ℤ t.w) -ℤ x ≡ pos 0
          → t.w *ℤ (b -ℤ a) ≡ pos 0
      differences a b x at_a at_b =
          let whole : t.w *ℤ (b -ℤ a) ≡ (b *ℤ t.w) -ℤ (a *ℤ t.w) =
          equal (times (var t.w) (minus (var b) (var a)))
          (minus (times (var b) (var t.w)) (times (var a) (var t.w))) (omega arith) in
          omega (arith, ints)

  -- there is one
  pub plain_point : (m : Spot) × IsPlain halves es e m
  plain_point =
      from (above_or_not (dot (seen_from t e.a) (seen_from t e.a)))
      (above_or_not (dot (seen_from t e.b) (seen_from t e.b)))
    where
      from : (pos 0 <ℤ dot (seen_from t e.a) (seen_from t e.a))
          ⊎ (dot (seen_from t e.a) (seen_from t e.a) ≤ℤ pos 0)
          → (pos 0 <ℤ dot (seen_from t e.b) (seen_from t e.b))
          ⊎ (dot (seen_from t e.b) (seen_from t e.b) ≤ℤ pos 0)
          → (m : Spot) × IsPlain halves es e m
      from (inl long) other = towards_a long
      from (inr short) (inl long) = towards_b long
      from (inr short) (inr none) = absurd (one_is_long short none)
