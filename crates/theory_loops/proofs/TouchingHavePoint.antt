-- Two edges touch exactly where they have a point in common.

use Rattle.std.proofs.Common.{◌≡◌, sym, ap, ap₂, ◌∙◌, ◌⊎◌, inl, inr, ◌↔◌, arith, pos, neg_ℤ, ℤ}
use Rattle.std.proofs.Common.{◌<ℤ◌, ◌≤ℤ◌, ◌+ℤ◌, ◌-ℤ◌, ◌*ℤ◌, true, ◌&&◌, ◌||◌, int_le}
use Rattle.std.specs.Ordering.{int_eq}
use Rattle.std.proofs.lemmas.Int.{ints}
use Rattle.std.proofs.lemmas.Bool.{and_from, and_parts, or_cases}
use Rattle.std.proofs.lemmas.Bool.Decides.{Decides-int_eq}
use Rattle.theory_numbers.specs.Arrows.{Arrow, arrow, cross, dot, scale}
use Rattle.theory_numbers.proofs.Vectors.Arrows.{cross-self, scale-cross, cross-scale, scale-dot, dot-scale}
use Rattle.theory_numbers.proofs.Vectors.Arrows.{same_arrow}
use Rattle.theory_numbers.proofs.Ring.{mul-zero}
use Rattle.theory_numbers.proofs.Shapes.{var, num, negated, plus, minus, times, equal, cross_by}
use Rattle.theory_numbers.proofs.Signs.{less_from, test_at_most, above_or_not}
use Rattle.theory_numbers.proofs.Products.{weak_negative_product, weak_square}
use Rattle.theory_numbers.proofs.Vectors.Lengths.{weak_length}
use Rattle.sb_fraction.specs.declared.point.Point.{Point}
use Rattle.sb_fraction.specs.Spots.{Spot, IsSpot, spot, spot_at}
use Rattle.sb_fraction.specs.Edges.{Edge, edge, seen_from, turn_at, reach_at, is_on}
use Rattle.theory_plans.specs.Alike.{scaled}
use Rattle.theory_plans.specs.Plans.{do_touch, is_parted}
use Rattle.theory_plans.proofs.PointsAlike.{turn-scaled, reach-scaled}
use Rattle.theory_plans.proofs.TouchingEdges.{common_point_touches}

-- ---- a point that sees the two ends along one vector

record LiesOn (p : Spot) (e : Edge) : Type 0 where
  level : turn_at e p ≡ pos 0
  near : reach_at e p ≤ℤ pos 0

on_from : (p : Spot) (e : Edge) → LiesOn p e → is_on p e ≡ true
on_from p e on =
    and_from (int_eq (turn_at e p) (pos 0)) (int_le (reach_at e p) (pos 0))
    ((Decides-int_eq (turn_at e p) (pos 0)).1 on.level)
    (test_at_most (reach_at e p) (pos 0) on.near)

along : (p : Spot) (e : Edge) (m n : ℤ) (v : Arrow) → seen_from p e.a ≡ scale m v
    → seen_from p e.b ≡ scale n v → (m *ℤ n) ≤ℤ pos 0 → LiesOn p e
along p e m n v to_a to_b low =
    record {
      level = ap₂ cross to_a to_b ∙ scale-cross m v (scale n v)
          ∙ ap (λ k. m *ℤ k) (cross-scale n v v ∙ ap (λ k. n *ℤ k) (cross-self v) ∙ mul-zero n)
          ∙ mul-zero m;
      near =
          let whole : reach_at e p ≡ m *ℤ (n *ℤ dot v v) =
          ap₂ dot to_a to_b ∙ scale-dot m v (scale n v) ∙ ap (λ k. m *ℤ k) (dot-scale n v v) in
          let turned = regrouped m n (dot v v) in
          let under = weak_negative_product (dot v v) (m *ℤ n) (weak_length v) low in
          omega (arith, ints);
    }
  where
    regrouped : (k l d : ℤ) → k *ℤ (l *ℤ d) ≡ d *ℤ (k *ℤ l)
    regrouped k l d = equal (times (var k) (times (var l) (var d)))
        (times (var d) (times (var k) (var l))) (omega arith)

-- ---- an end of an edge lies on it

first_end : (e : Edge) → is_on (spot_at e.a) e ≡ true
first_end e =
    let v = seen_from (spot_at e.a) e.b in
    on_from (spot_at e.a) e
    (along (spot_at e.a) e (pos 0) (pos 1) v
    (same_arrow (seen_from (spot_at e.a) e.a) (scale (pos 0) v) (none e.a.x v.x) (none e.a.y v.y))
    (same_arrow v (scale (pos 1) v) (once v.x) (once v.y)) (omega (arith, ints)))
  where
    none : (x k : ℤ) → (x *ℤ pos 1) -ℤ x ≡ pos 0 *ℤ k
    none x k = equal (minus (times (var x) (num 1)) (var x)) (times (num 0) (var k)) (omega arith)

    once : (k : ℤ) → k ≡ pos 1 *ℤ k
    once k = equal (var k) (times (num 1) (var k)) (omega arith)

second_end : (e : Edge) → is_on (spot_at e.b) e ≡ true
second_end e =
    let v = seen_from (spot_at e.b) e.a in
    on_from (spot_at e.b) e
    (along (spot_at e.b) e (pos 1) (pos 0) v
    (same_arrow v (scale (pos 1) v) (once v.x) (once v.y))
    (same_arrow (seen_from (spot_at e.b) e.b) (scale (pos 0) v) (none e.b.x v.x) (none e.b.y v.y))
    (omega (arith, ints)))
  where
    none : (x k : ℤ) → (x *ℤ pos 1) -ℤ x ≡ pos 0 *ℤ k
    none x k = equal (minus (times (var x) (num 1)) (var x)) (times (num 0) (var k)) (omega arith)

    once : (k : ℤ) → k ≡ pos 1 *ℤ k
    once k = equal (var k) (times (num 1) (var k)) (omega arith)

-- ---- where each line parts the ends of the other edge

-- the point where the lines meet, its denominator of either sign: t·f.a - s·f.b by t - s, where s
-- and t say on which side of e the ends of f lie
abbrev meeting : Edge → Edge → Spot
meeting e f =
    let s = turn_at e (spot_at f.a) in
    let t = turn_at e (spot_at f.b) in
    spot ((t *ℤ f.a.x) -ℤ (s *ℤ f.b.x)) ((t *ℤ f.a.y) -ℤ (s *ℤ f.b.y)) (pos 0) (t -ℤ s)

core_first_x : (gx gy dx dy ex ey : ℤ)
    → (gx *ℤ neg_ℤ ((dx *ℤ ey) -ℤ (dy *ℤ ex))) +ℤ (((gx *ℤ ey) -ℤ (gy *ℤ ex)) *ℤ dx)
    ≡ neg_ℤ ((gx *ℤ dy) -ℤ (gy *ℤ dx)) *ℤ neg_ℤ ex
core_first_x gx gy dx dy ex ey =
    equal
    (plus (times (var gx) (negated (minus (times (var dx) (var ey)) (times (var dy) (var ex)))))
    (times (minus (times (var gx) (var ey)) (times (var gy) (var ex))) (var dx)))
    (times (negated (minus (times (var gx) (var dy)) (times (var gy) (var dx)))) (negated (var ex))) (omega arith)

core_second_x : (gx gy dx dy ex ey : ℤ)
    → ((gx +ℤ ex) *ℤ neg_ℤ ((dx *ℤ ey) -ℤ (dy *ℤ ex))) +ℤ (((gx *ℤ ey) -ℤ (gy *ℤ ex)) *ℤ dx)
    ≡ (neg_ℤ ((gx *ℤ dy) -ℤ (gy *ℤ dx)) +ℤ ((dx *ℤ ey) -ℤ (dy *ℤ ex))) *ℤ neg_ℤ ex
core_second_x gx gy dx dy ex ey =
    equal
    (plus (times (plus (var gx) (var ex)) (negated (minus (times (var dx) (var ey)) (times (var dy) (var ex)))))
    (times (minus (times (var gx) (var ey)) (times (var gy) (var ex))) (var dx)))
    (times (plus (negated (minus (times (var gx) (var dy)) (times (var gy) (var dx)))) (minus (times (var dx) (var ey)) (times (var dy) (var ex)))) (negated (var ex)))
    (omega arith)

core_first_y : (gx gy dx dy ex ey : ℤ)
    → (gy *ℤ neg_ℤ ((dx *ℤ ey) -ℤ (dy *ℤ ex))) +ℤ (((gx *ℤ ey) -ℤ (gy *ℤ ex)) *ℤ dy)
    ≡ neg_ℤ ((gx *ℤ dy) -ℤ (gy *ℤ dx)) *ℤ neg_ℤ ey
core_first_y gx gy dx dy ex ey =
    equal
    (plus (times (var gy) (negated (minus (times (var dx) (var ey)) (times (var dy) (var ex)))))
    (times (minus (times (var gx) (var ey)) (times (var gy) (var ex))) (var dy)))
    (times (negated (minus (times (var gx) (var dy)) (times (var gy) (var dx)))) (negated (var ey))) (omega arith)

core_second_y : (gx gy dx dy ex ey : ℤ)
    → ((gy +ℤ ey) *ℤ neg_ℤ ((dx *ℤ ey) -ℤ (dy *ℤ ex))) +ℤ (((gx *ℤ ey) -ℤ (gy *ℤ ex)) *ℤ dy)
    ≡ (neg_ℤ ((gx *ℤ dy) -ℤ (gy *ℤ dx)) +ℤ ((dx *ℤ ey) -ℤ (dy *ℤ ex))) *ℤ neg_ℤ ey
core_second_y gx gy dx dy ex ey =
    equal
    (plus (times (plus (var gy) (var ey)) (negated (minus (times (var dx) (var ey)) (times (var dy) (var ex)))))
    (times (minus (times (var gx) (var ey)) (times (var gy) (var ex))) (var dy)))
    (times (plus (negated (minus (times (var gx) (var dy)) (times (var gy) (var dx)))) (minus (times (var dx) (var ey)) (times (var dy) (var ex)))) (negated (var ey)))
    (omega arith)

module _ (a b c d : Point) where
  abbrev s : ℤ
  s = turn_at (edge a b) (spot_at c)

  abbrev t : ℤ
  t = turn_at (edge a b) (spot_at d)

  abbrev m : ℤ
  m = turn_at (edge c d) (spot_at a)

  abbrev n : ℤ
  n = turn_at (edge c d) (spot_at b)

  s_is : s ≡ (((a.x -ℤ c.x) *ℤ (b.y -ℤ a.y)) -ℤ ((a.y -ℤ c.y) *ℤ (b.x -ℤ a.x)))
  s_is = equal (cross_by (seen_from (spot_at c) a) (seen_from (spot_at c) b)
      (minus (times (var a.x) (num 1)) (var c.x)) (minus (times (var a.y) (num 1)) (var c.y))
      (minus (times (var b.x) (num 1)) (var c.x)) (minus (times (var b.y) (num 1)) (var c.y)))
      (minus (times (minus (var a.x) (var c.x)) (minus (var b.y) (var a.y))) (times (minus (var a.y) (var c.y)) (minus (var b.x) (var a.x)))) (omega arith)

  w_is : t -ℤ s ≡ neg_ℤ (((d.x -ℤ c.x) *ℤ (b.y -ℤ a.y)) -ℤ ((d.y -ℤ c.y) *ℤ (b.x -ℤ a.x)))
  w_is = equal (minus (cross_by (seen_from (spot_at d) a) (seen_from (spot_at d) b)
      (minus (times (var a.x) (num 1)) (var d.x)) (minus (times (var a.y) (num 1)) (var d.y))
      (minus (times (var b.x) (num 1)) (var d.x)) (minus (times (var b.y) (num 1)) (var d.y))) (cross_by (seen_from (spot_at c) a) (seen_from (spot_at c) b)
      (minus (times (var a.x) (num 1)) (var c.x)) (minus (times (var a.y) (num 1)) (var c.y))
      (minus (times (var b.x) (num 1)) (var c.x)) (minus (times (var b.y) (num 1)) (var c.y))))
      (negated (minus (times (minus (var d.x) (var c.x)) (minus (var b.y) (var a.y))) (times (minus (var d.y) (var c.y)) (minus (var b.x) (var a.x))))) (omega arith)

  m_is : m ≡ neg_ℤ (((a.x -ℤ c.x) *ℤ (d.y -ℤ c.y)) -ℤ ((a.y -ℤ c.y) *ℤ (d.x -ℤ c.x)))
  m_is = equal (cross_by (seen_from (spot_at a) c) (seen_from (spot_at a) d)
      (minus (times (var c.x) (num 1)) (var a.x)) (minus (times (var c.y) (num 1)) (var a.y))
      (minus (times (var d.x) (num 1)) (var a.x)) (minus (times (var d.y) (num 1)) (var a.y)))
      (negated (minus (times (minus (var a.x) (var c.x)) (minus (var d.y) (var c.y))) (times (minus (var a.y) (var c.y)) (minus (var d.x) (var c.x))))) (omega arith)

  n_is : n ≡ neg_ℤ (((a.x -ℤ c.x) *ℤ (d.y -ℤ c.y)) -ℤ ((a.y -ℤ c.y) *ℤ (d.x -ℤ c.x))) +ℤ (((d.x -ℤ c.x) *ℤ (b.y -ℤ a.y)) -ℤ ((d.y -ℤ c.y) *ℤ (b.x -ℤ a.x)))
  n_is = equal (cross_by (seen_from (spot_at b) c) (seen_from (spot_at b) d)
      (minus (times (var c.x) (num 1)) (var b.x)) (minus (times (var c.y) (num 1)) (var b.y))
      (minus (times (var d.x) (num 1)) (var b.x)) (minus (times (var d.y) (num 1)) (var b.y)))
      (plus (negated (minus (times (minus (var a.x) (var c.x)) (minus (var d.y) (var c.y))) (times (minus (var a.y) (var c.y)) (minus (var d.x) (var c.x))))) (minus (times (minus (var d.x) (var c.x)) (minus (var b.y) (var a.y))) (times (minus (var d.y) (var c.y)) (minus (var b.x) (var a.x))))) (omega arith)

  moved : (k l u v z : ℤ) → (z *ℤ (l -ℤ k)) -ℤ ((l *ℤ u) -ℤ (k *ℤ v))
      ≡ ((z -ℤ u) *ℤ (l -ℤ k)) +ℤ (k *ℤ (v -ℤ u))
  moved k l u v z =
      equal
      (minus (times (var z) (minus (var l) (var k)))
      (minus (times (var l) (var u)) (times (var k) (var v))))
      (plus (times (minus (var z) (var u)) (minus (var l) (var k)))
      (times (var k) (minus (var v) (var u)))) (omega arith)

  back_x : neg_ℤ (b.x -ℤ a.x) ≡ a.x -ℤ b.x
  back_x = omega (arith, ints)

  first_x : (a.x *ℤ (t -ℤ s)) -ℤ ((t *ℤ c.x) -ℤ (s *ℤ d.x)) ≡ m *ℤ (a.x -ℤ b.x)
  first_x =
      moved s t c.x d.x a.x
      ∙ ap₂ (λ k l. ((a.x -ℤ c.x) *ℤ k) +ℤ (l *ℤ (d.x -ℤ c.x))) w_is s_is
      ∙ core_first_x (a.x -ℤ c.x) (a.y -ℤ c.y) (d.x -ℤ c.x) (d.y -ℤ c.y) (b.x -ℤ a.x) (b.y -ℤ a.y)
      ∙ ap₂ (λ k l. k *ℤ l) (sym m_is) back_x

  sum_x : b.x -ℤ c.x ≡ (a.x -ℤ c.x) +ℤ (b.x -ℤ a.x)
  sum_x = omega (arith, ints)

  second_x : (b.x *ℤ (t -ℤ s)) -ℤ ((t *ℤ c.x) -ℤ (s *ℤ d.x)) ≡ n *ℤ (a.x -ℤ b.x)
  second_x =
      moved s t c.x d.x b.x
      ∙ ap (λ h. (h *ℤ (t -ℤ s)) +ℤ (s *ℤ (d.x -ℤ c.x))) sum_x
      ∙ ap₂ (λ k l. (((a.x -ℤ c.x) +ℤ (b.x -ℤ a.x)) *ℤ k) +ℤ (l *ℤ (d.x -ℤ c.x))) w_is s_is
      ∙ core_second_x (a.x -ℤ c.x) (a.y -ℤ c.y) (d.x -ℤ c.x) (d.y -ℤ c.y) (b.x -ℤ a.x) (b.y -ℤ a.y)
      ∙ ap₂ (λ k l. k *ℤ l) (sym n_is) back_x

  back_y : neg_ℤ (b.y -ℤ a.y) ≡ a.y -ℤ b.y
  back_y = omega (arith, ints)

  first_y : (a.y *ℤ (t -ℤ s)) -ℤ ((t *ℤ c.y) -ℤ (s *ℤ d.y)) ≡ m *ℤ (a.y -ℤ b.y)
  first_y =
      moved s t c.y d.y a.y
      ∙ ap₂ (λ k l. ((a.y -ℤ c.y) *ℤ k) +ℤ (l *ℤ (d.y -ℤ c.y))) w_is s_is
      ∙ core_first_y (a.x -ℤ c.x) (a.y -ℤ c.y) (d.x -ℤ c.x) (d.y -ℤ c.y) (b.x -ℤ a.x) (b.y -ℤ a.y)
      ∙ ap₂ (λ k l. k *ℤ l) (sym m_is) back_y

  sum_y : b.y -ℤ c.y ≡ (a.y -ℤ c.y) +ℤ (b.y -ℤ a.y)
  sum_y = omega (arith, ints)

  second_y : (b.y *ℤ (t -ℤ s)) -ℤ ((t *ℤ c.y) -ℤ (s *ℤ d.y)) ≡ n *ℤ (a.y -ℤ b.y)
  second_y =
      moved s t c.y d.y b.y
      ∙ ap (λ h. (h *ℤ (t -ℤ s)) +ℤ (s *ℤ (d.y -ℤ c.y))) sum_y
      ∙ ap₂ (λ k l. (((a.y -ℤ c.y) +ℤ (b.y -ℤ a.y)) *ℤ k) +ℤ (l *ℤ (d.y -ℤ c.y))) w_is s_is
      ∙ core_second_y (a.x -ℤ c.x) (a.y -ℤ c.y) (d.x -ℤ c.x) (d.y -ℤ c.y) (b.x -ℤ a.x) (b.y -ℤ a.y)
      ∙ ap₂ (λ k l. k *ℤ l) (sym n_is) back_y

  on_first : (m *ℤ n) <ℤ pos 0 → LiesOn (meeting (edge a b) (edge c d)) (edge a b)
  on_first low =
      let p = meeting (edge a b) (edge c d) in
      along p (edge a b) m n (arrow (a.x -ℤ b.x) (a.y -ℤ b.y))
      (same_arrow (seen_from p a) (scale m (arrow (a.x -ℤ b.x) (a.y -ℤ b.y))) first_x first_y)
      (same_arrow (seen_from p b) (scale n (arrow (a.x -ℤ b.x) (a.y -ℤ b.y))) second_x second_y)
      (omega (arith, ints))

  on_second : (s *ℤ t) <ℤ pos 0 → LiesOn (meeting (edge a b) (edge c d)) (edge c d)
  on_second low =
      let p = meeting (edge a b) (edge c d) in
      along p (edge c d) s t (arrow (d.x -ℤ c.x) (d.y -ℤ c.y))
      (same_arrow (seen_from p c) (scale s (arrow (d.x -ℤ c.x) (d.y -ℤ c.y))) (from_c s t c.x d.x)
      (from_c s t c.y d.y))
      (same_arrow (seen_from p d) (scale t (arrow (d.x -ℤ c.x) (d.y -ℤ c.y))) (from_d s t c.x d.x)
      (from_d s t c.y d.y))
      (omega (arith, ints))
    where
      from_c : (k l x y : ℤ) → (x *ℤ (l -ℤ k)) -ℤ ((l *ℤ x) -ℤ (k *ℤ y)) ≡ k *ℤ (y -ℤ x)
      from_c k l x y =
          equal
          (minus (times (var x) (minus (var l) (var k)))
          (minus (times (var l) (var x)) (times (var k) (var y))))
          (times (var k) (minus (var y) (var x))) (omega arith)

      from_d : (k l x y : ℤ) → (y *ℤ (l -ℤ k)) -ℤ ((l *ℤ x) -ℤ (k *ℤ y)) ≡ l *ℤ (y -ℤ x)
      from_d k l x y =
          equal
          (minus (times (var y) (minus (var l) (var k)))
          (minus (times (var l) (var x)) (times (var k) (var y))))
          (times (var l) (minus (var y) (var x))) (omega arith)

-- a point on both
abbrev HaveCommonPoint : Edge → Edge → Type 0
HaveCommonPoint e f =
    (p : Spot) × (IsSpot p × ((is_on p e ≡ true) × (is_on p f ≡ true)))

other_sign : (p : Spot) (e : Edge) → LiesOn p e → LiesOn (scaled (neg_ℤ (pos 1)) p) e
other_sign p e on =
    record {
      level = turn-scaled (neg_ℤ (pos 1)) p e
          ∙ ap (λ k. neg_ℤ (pos 1) *ℤ (neg_ℤ (pos 1) *ℤ k)) on.level;
      near =
          let twice = reach-scaled (neg_ℤ (pos 1)) p e in
          let low = on.near in
          let once = unchanged (reach_at e p) in
          omega (arith, ints);
    }
  where
    unchanged : (k : ℤ) → neg_ℤ (pos 1) *ℤ (neg_ℤ (pos 1) *ℤ k) ≡ k
    unchanged k = omega (arith, ints)

parted_meet : (e f : Edge) → is_parted e f ≡ true → is_parted f e ≡ true → HaveCommonPoint e f
parted_meet e f e_parts f_parts =
    by_sign (above_or_not (meeting e f).w)
  where
    f_low : (turn_at e (spot_at f.a) *ℤ turn_at e (spot_at f.b)) <ℤ pos 0
    f_low = less_from (turn_at e (spot_at f.a) *ℤ turn_at e (spot_at f.b)) (pos 0) e_parts

    e_low : (turn_at f (spot_at e.a) *ℤ turn_at f (spot_at e.b)) <ℤ pos 0
    e_low = less_from (turn_at f (spot_at e.a) *ℤ turn_at f (spot_at e.b)) (pos 0) f_parts

    on_e : LiesOn (meeting e f) e
    on_e = on_first e.a e.b f.a f.b e_low

    on_f : LiesOn (meeting e f) f
    on_f = on_second e.a e.b f.a f.b f_low

    not_none : (k l : ℤ) → (k *ℤ l) <ℤ pos 0 → l -ℤ k ≡ pos 0 → ⊥
    not_none k l low none =
        let same : l ≡ k = omega (arith, ints) in
        let square : k *ℤ l ≡ k *ℤ k = ap (λ h. k *ℤ h) same in
        let weak = weak_square k in
        absurd (omega (arith, ints))

    turned_w : (k : ℤ) → k ≤ℤ pos 0 → (k ≡ pos 0 → ⊥) → pos 0 <ℤ (neg_ℤ (pos 1) *ℤ k)
    turned_w k low other = from (above_or_not (neg_ℤ (pos 1) *ℤ k))
      where
        from : ((pos 0 <ℤ (neg_ℤ (pos 1) *ℤ k)) ⊎ ((neg_ℤ (pos 1) *ℤ k) ≤ℤ pos 0))
            → pos 0 <ℤ (neg_ℤ (pos 1) *ℤ k)
        from (inl up) = up
        from (inr down) = absurd (other (omega (arith, ints)))

    by_sign : ((pos 0 <ℤ (meeting e f).w) ⊎ ((meeting e f).w ≤ℤ pos 0)) → HaveCommonPoint e f
    by_sign (inl up) =
        (meeting e f, (up, (on_from (meeting e f) e on_e, on_from (meeting e f) f on_f)))
    by_sign (inr down) = (
      scaled (neg_ℤ (pos 1)) (meeting e f),
      (
        turned_w (meeting e f).w down
            (not_none (turn_at e (spot_at f.a)) (turn_at e (spot_at f.b)) f_low),
        (
          on_from (scaled (neg_ℤ (pos 1)) (meeting e f)) e (other_sign (meeting e f) e on_e),
          on_from (scaled (neg_ℤ (pos 1)) (meeting e f)) f (other_sign (meeting e f) f on_f),
        ),
      ),
    )

-- ---- edges that touch

plan_point_is : (a : Point) → IsSpot (spot_at a)
plan_point_is a = omega (arith, ints)

have_point : (e f : Edge) → do_touch e f ≡ true → HaveCommonPoint e f
have_point e f touch =
    from
    (or_cases (is_on (spot_at e.a) f)
    (is_on (spot_at e.b) f || (is_on (spot_at f.a) e
    || (is_on (spot_at f.b) e || (is_parted e f && is_parted f e)))) touch)
  where
    by_parted : (is_on (spot_at f.b) e ≡ true) ⊎ ((is_parted e f && is_parted f e) ≡ true)
        → HaveCommonPoint e f
    by_parted (inl on) =
        (spot_at f.b, (plan_point_is f.b, (on, second_end f)))
    by_parted (inr parted) =
        let both = and_parts (is_parted e f) (is_parted f e) parted in
        parted_meet e f both.0 both.1

    by_third : (is_on (spot_at f.a) e ≡ true)
        ⊎ ((is_on (spot_at f.b) e || (is_parted e f && is_parted f e)) ≡ true)
        → HaveCommonPoint e f
    by_third (inl on) = (spot_at f.a, (plan_point_is f.a, (on, first_end f)))
    by_third (inr rest) =
        by_parted (or_cases (is_on (spot_at f.b) e) (is_parted e f && is_parted f e) rest)

    by_second : (is_on (spot_at e.b) f ≡ true)
        ⊎ ((is_on (spot_at f.a) e
        || (is_on (spot_at f.b) e || (is_parted e f && is_parted f e))) ≡ true)
        → HaveCommonPoint e f
    by_second (inl on) = (spot_at e.b, (plan_point_is e.b, (second_end e, on)))
    by_second (inr rest) =
        by_third
        (or_cases (is_on (spot_at f.a) e)
        (is_on (spot_at f.b) e || (is_parted e f && is_parted f e)) rest)

    from : (is_on (spot_at e.a) f ≡ true)
        ⊎ ((is_on (spot_at e.b) f || (is_on (spot_at f.a) e
        || (is_on (spot_at f.b) e || (is_parted e f && is_parted f e)))) ≡ true)
        → HaveCommonPoint e f
    from (inl on) = (spot_at e.a, (plan_point_is e.a, (first_end e, on)))
    from (inr rest) =
        by_second
        (or_cases (is_on (spot_at e.b) f)
        (is_on (spot_at f.a) e || (is_on (spot_at f.b) e || (is_parted e f && is_parted f e)))
        rest)

-- both ways
pub touch_is : (e f : Edge) → do_touch e f ≡ true
    ↔ ((p : Spot) × (IsSpot p × ((is_on p e ≡ true) × (is_on p f ≡ true))))
touch_is e f = (
  have_point e f,
  λ (p, common). common_point_touches e f p common.0 common.1.0 common.1.1,
)
