-- The height over a line is linear on the way from one point to another; the turn of an edge and the
-- side of a ray are such heights.

use Rattle.std.proofs.Common.{◌≡◌, ◌⊎◌, inl, inr, arith, ℤ, pos, ◌<ℤ◌, ◌≤ℤ◌, ◌+ℤ◌, ◌*ℤ◌}
use Rattle.std.proofs.lemmas.Int.{ints}
use Rattle.theory_numbers.specs.Arrows.{Arrow, cross}
use Rattle.theory_numbers.proofs.Shapes.{var, plus, minus, negated, times, equal, cross_by}
use Rattle.theory_numbers.proofs.Products.{weak_product, positive_product}
use Rattle.theory_numbers.proofs.Signs.{above_or_not}
use Rattle.sb_fraction.specs.declared.point.Point.{Point}
use Rattle.sb_fraction.specs.Spots.{Spot, IsSpot}
use Rattle.sb_fraction.specs.Edges.{Edge, span_of, seen_from, turn_at}
use Rattle.sb_fraction.specs.Lines.{place}
use Rattle.theory_parity.specs.Halves.{Half, height_over, left_half, half_right_of, on_way}

weighed : (a m x n y : ℤ) → a *ℤ ((m *ℤ x) +ℤ (n *ℤ y)) ≡ (m *ℤ (a *ℤ x)) +ℤ (n *ℤ (a *ℤ y))
weighed a m x n y =
    equal (times (var a) (plus (times (var m) (var x)) (times (var n) (var y))))
    (plus (times (var m) (times (var a) (var x))) (times (var n) (times (var a) (var y))))
    (omega arith)

spread : (m a b c : ℤ) → m *ℤ ((a +ℤ b) +ℤ c) ≡ ((m *ℤ a) +ℤ (m *ℤ b)) +ℤ (m *ℤ c)
spread m a b c =
    equal (times (var m) (plus (plus (var a) (var b)) (var c)))
    (plus (plus (times (var m) (var a)) (times (var m) (var b))) (times (var m) (var c)))
    (omega arith)

-- on the way it is the sum of the heights at the ends, weighed
pub height-on_way : (h : Half) (m : ℤ) (p : Spot) (n : ℤ) (q : Spot)
    → height_over h (on_way m p n q) ≡ (m *ℤ height_over h p) +ℤ (n *ℤ height_over h q)
height-on_way h m p n q =
    let x = weighed h.a m p.x n q.x in
    let y = weighed h.b m p.y n q.y in
    let w = weighed h.c m p.w n q.w in
    let one = spread m (h.a *ℤ p.x) (h.b *ℤ p.y) (h.c *ℤ p.w) in
    let other = spread n (h.a *ℤ q.x) (h.b *ℤ q.y) (h.c *ℤ q.w) in
    omega (arith, ints)

-- each point on the way is a point
pub on_way_is : (m : ℤ) (p : Spot) (n : ℤ) (q : Spot) → IsSpot p → IsSpot q → pos 0 ≤ℤ m
    → pos 0 ≤ℤ n → pos 0 <ℤ (m +ℤ n) → IsSpot (on_way m p n q)
on_way_is m p n q p_is q_is m_in n_in some = from (above_or_not m)
  where
    from : (pos 0 <ℤ m) ⊎ (m ≤ℤ pos 0) → IsSpot (on_way m p n q)
    from (inl above) =
        let one = positive_product m p.w above p_is in
        let other = weak_product n q.w n_in (omega (arith, ints)) in
        omega (arith, ints)
    from (inr none) =
        let one = weak_product m p.w m_in (omega (arith, ints)) in
        let other = positive_product n q.w (omega (arith, ints)) q_is in
        omega (arith, ints)

-- the turn of an edge is the height over it, w times
pub turn_by_height : (e : Edge) (p : Spot) → turn_at e p ≡ p.w *ℤ height_over (left_half e) p
turn_by_height e p =
    equal
    (cross_by (seen_from p e.a) (seen_from p e.b)
    (minus (times (var e.a.x) (var p.w)) (var p.x)) (minus (times (var e.a.y) (var p.w)) (var p.y))
    (minus (times (var e.b.x) (var p.w)) (var p.x)) (minus (times (var e.b.y) (var p.w)) (var p.y)))
    (times (var p.w)
    (plus
    (plus (times (negated (minus (var e.b.y) (var e.a.y))) (var p.x))
    (times (minus (var e.b.x) (var e.a.x)) (var p.y)))
    (times
    (negated
    (cross_by (span_of e) (place e.a)
    (minus (var e.b.x) (var e.a.x)) (minus (var e.b.y) (var e.a.y)) (var e.a.x) (var e.a.y)))
    (var p.w))))
    (omega arith)

-- a plan point lies as far left of the ray from p as p lies in its half-plane
pub left_by_height : (r : Arrow) (p : Spot) (a : Point)
    → cross r (seen_from p a) ≡ height_over (half_right_of r a) p
left_by_height r p a =
    equal
    (cross_by r (seen_from p a) (var r.x) (var r.y)
    (minus (times (var a.x) (var p.w)) (var p.x)) (minus (times (var a.y) (var p.w)) (var p.y)))
    (plus (plus (times (var r.y) (var p.x)) (times (negated (var r.x)) (var p.y)))
    (times (cross_by r (place a) (var r.x) (var r.y) (var a.x) (var a.y)) (var p.w)))
    (omega arith)
