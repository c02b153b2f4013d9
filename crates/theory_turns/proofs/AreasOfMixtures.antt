-- Mixtures of three vectors: the areas that two of them span, coordinate by coordinate.

use Rattle.std.proofs.Common.{ℤ, pos, ◌≡◌, ◌+ℤ◌, ◌-ℤ◌, ◌*ℤ◌, neg_ℤ, arith, refl, ap, sym, ◌∙◌}
use Rattle.std.proofs.lemmas.Int.{ints}
use Rattle.theory_numbers.proofs.Shapes.{var, num, plus, minus, negated, times, equal}
use Rattle.sb_fraction.specs.Spots.{Vector}
use Rattle.theory_turns.specs.Turns.{mixed}

-- twice the area that two vectors of the plane span
abbrev pub area : ℤ → ℤ → ℤ → ℤ → ℤ
area p1 p2 q1 q2 = (p1 *ℤ q2) -ℤ (p2 *ℤ q1)

area-add : (p1 p2 r1 r2 q1 q2 : ℤ)
    → area (p1 +ℤ r1) (p2 +ℤ r2) q1 q2 ≡ area p1 p2 q1 q2 +ℤ area r1 r2 q1 q2
area-add p1 p2 r1 r2 q1 q2 =
    equal
    (minus (times (plus (var p1) (var r1)) (var q2)) (times (plus (var p2) (var r2)) (var q1)))
    (plus (minus (times (var p1) (var q2)) (times (var p2) (var q1)))
    (minus (times (var r1) (var q2)) (times (var r2) (var q1))))
    (omega arith)

area-scaled : (k p1 p2 q1 q2 : ℤ) → area (p1 *ℤ k) (p2 *ℤ k) q1 q2 ≡ k *ℤ area p1 p2 q1 q2
area-scaled k p1 p2 q1 q2 =
    equal
    (minus (times (times (var p1) (var k)) (var q2)) (times (times (var p2) (var k)) (var q1)))
    (times (var k) (minus (times (var p1) (var q2)) (times (var p2) (var q1))))
    (omega arith)

-- the area that a mixture spans with another vector
area-mixed : (z : Vector) (a1 b1 c1 a2 b2 c2 q1 q2 : ℤ)
    → area (mixed z a1 b1 c1) (mixed z a2 b2 c2) q1 q2
    ≡ ((z.x *ℤ area a1 a2 q1 q2) +ℤ (z.y *ℤ area b1 b2 q1 q2)) +ℤ (z.z *ℤ area c1 c2 q1 q2)
area-mixed z a1 b1 c1 a2 b2 c2 q1 q2 =
    let whole = area-add ((a1 *ℤ z.x) +ℤ (b1 *ℤ z.y)) ((a2 *ℤ z.x) +ℤ (b2 *ℤ z.y))
    (c1 *ℤ z.z) (c2 *ℤ z.z) q1 q2 in
    let front = area-add (a1 *ℤ z.x) (a2 *ℤ z.x) (b1 *ℤ z.y) (b2 *ℤ z.y) q1 q2 in
    omega (
      arith,
      ints,
      whole,
      front,
      area-scaled z.x a1 a2 q1 q2,
      area-scaled z.y b1 b2 q1 q2,
      area-scaled z.z c1 c2 q1 q2,
    )

-- turned about it has the other sign
pub area-turned : (p1 p2 q1 q2 : ℤ) → area p1 p2 q1 q2 ≡ neg_ℤ (area q1 q2 p1 p2)
area-turned p1 p2 q1 q2 =
    equal (minus (times (var p1) (var q2)) (times (var p2) (var q1)))
    (negated (minus (times (var q1) (var p2)) (times (var q2) (var p1))))
    (omega arith)

area-itself : (p1 p2 : ℤ) → area p1 p2 p1 p2 ≡ pos 0
area-itself p1 p2 =
    equal (minus (times (var p1) (var p2)) (times (var p2) (var p1))) (num 0) (omega arith)

-- the area that a vector spans with a mixture, where those that the three span with it are known
area-across : (x : Vector) (a1 b1 c1 a2 b2 c2 q1 q2 s t u : ℤ) → area a1 a2 q1 q2 ≡ s
    → area b1 b2 q1 q2 ≡ t → area c1 c2 q1 q2 ≡ u
    → area q1 q2 (mixed x a1 b1 c1) (mixed x a2 b2 c2)
    ≡ neg_ℤ (((x.x *ℤ s) +ℤ (x.y *ℤ t)) +ℤ (x.z *ℤ u))
area-across x a1 b1 c1 a2 b2 c2 q1 q2 s t u first second third =
    area-turned q1 q2 (mixed x a1 b1 c1) (mixed x a2 b2 c2)
    ∙ ap neg_ℤ (rw (sym first, sym second, sym third) (area-mixed x a1 b1 c1 a2 b2 c2 q1 q2))

by_first : (k l m s t : ℤ)
    → k *ℤ neg_ℤ (((l *ℤ pos 0) +ℤ (m *ℤ neg_ℤ s)) +ℤ t) ≡ ((k *ℤ m) *ℤ s) -ℤ (k *ℤ t)
by_first k l m s t =
    equal
    (times (var k) (negated (plus (plus (times (var l) (num 0)) (times (var m) (negated (var s)))) (var t))))
    (minus (times (times (var k) (var m)) (var s)) (times (var k) (var t)))
    (omega arith)

by_second : (k l m n s t : ℤ)
    → k *ℤ neg_ℤ (((l *ℤ s) +ℤ (m *ℤ pos 0)) +ℤ (n *ℤ neg_ℤ t))
    ≡ ((k *ℤ n) *ℤ t) -ℤ ((k *ℤ l) *ℤ s)
by_second k l m n s t =
    equal
    (times (var k) (negated (plus (plus (times (var l) (var s)) (times (var m) (num 0))) (times (var n) (negated (var t))))))
    (minus (times (times (var k) (var n)) (var t)) (times (times (var k) (var l)) (var s)))
    (omega arith)

by_third : (k l m n s t : ℤ)
    → k *ℤ neg_ℤ (((l *ℤ s) +ℤ (m *ℤ t)) +ℤ (n *ℤ pos 0))
    ≡ neg_ℤ (((k *ℤ l) *ℤ s) +ℤ ((k *ℤ m) *ℤ t))
by_third k l m n s t =
    equal
    (times (var k) (negated (plus (plus (times (var l) (var s)) (times (var m) (var t))) (times (var n) (num 0)))))
    (negated (plus (times (times (var k) (var l)) (var s)) (times (times (var k) (var m)) (var t))))
    (omega arith)

turned_times : (k m s : ℤ) → k *ℤ (m *ℤ neg_ℤ s) ≡ neg_ℤ ((k *ℤ m) *ℤ s)
turned_times k m s =
    equal (times (var k) (times (var m) (negated (var s)))) (negated (times (times (var k) (var m)) (var s)))
    (omega arith)

less_times : (p q s : ℤ) → (p -ℤ q) *ℤ s ≡ (p *ℤ s) -ℤ (q *ℤ s)
less_times p q s =
    equal (times (minus (var p) (var q)) (var s)) (minus (times (var p) (var s)) (times (var q) (var s)))
    (omega arith)

-- the area that two mixtures span, by those that each two of the three span
pub area-of-mixtures : (z x : Vector) (a1 b1 c1 a2 b2 c2 : ℤ)
    → area (mixed z a1 b1 c1) (mixed z a2 b2 c2) (mixed x a1 b1 c1) (mixed x a2 b2 c2)
    ≡ ((((z.x *ℤ x.y) -ℤ (z.y *ℤ x.x)) *ℤ area a1 a2 b1 b2)
    +ℤ (((z.x *ℤ x.z) -ℤ (z.z *ℤ x.x)) *ℤ area a1 a2 c1 c2))
    +ℤ (((z.y *ℤ x.z) -ℤ (z.z *ℤ x.y)) *ℤ area b1 b2 c1 c2)
area-of-mixtures z x a1 b1 c1 a2 b2 c2 =
    let ab = area a1 a2 b1 b2 in
    let ac = area a1 a2 c1 c2 in
    let bc = area b1 b2 c1 c2 in
    let first = area-across x a1 b1 c1 a2 b2 c2 a1 a2 (pos 0) (neg_ℤ ab) (neg_ℤ ac)
    (area-itself a1 a2) (area-turned b1 b2 a1 a2) (area-turned c1 c2 a1 a2) in
    let second = area-across x a1 b1 c1 a2 b2 c2 b1 b2 ab (pos 0) (neg_ℤ bc) refl (area-itself b1 b2)
    (area-turned c1 c2 b1 b2) in
    let third = area-across x a1 b1 c1 a2 b2 c2 c1 c2 ac bc (pos 0) refl refl (area-itself c1 c2) in
    area-mixed z a1 b1 c1 a2 b2 c2 (mixed x a1 b1 c1) (mixed x a2 b2 c2)
    ∙ rw (first, second, third) (gathered ab ac bc)
  where
    gathered : (s t u : ℤ)
        → ((z.x *ℤ neg_ℤ (((x.x *ℤ pos 0) +ℤ (x.y *ℤ neg_ℤ s)) +ℤ (x.z *ℤ neg_ℤ t)))
        +ℤ (z.y *ℤ neg_ℤ (((x.x *ℤ s) +ℤ (x.y *ℤ pos 0)) +ℤ (x.z *ℤ neg_ℤ u))))
        +ℤ (z.z *ℤ neg_ℤ (((x.x *ℤ t) +ℤ (x.y *ℤ u)) +ℤ (x.z *ℤ pos 0)))
        ≡ ((((z.x *ℤ x.y) -ℤ (z.y *ℤ x.x)) *ℤ s) +ℤ (((z.x *ℤ x.z) -ℤ (z.z *ℤ x.x)) *ℤ t))
        +ℤ (((z.y *ℤ x.z) -ℤ (z.z *ℤ x.y)) *ℤ u)
    gathered s t u =
        omega (
          arith,
          ints,
          by_first z.x x.x x.y s (x.z *ℤ neg_ℤ t),
          turned_times z.x x.z t,
          by_second z.y x.x x.y x.z s u,
          by_third z.z x.x x.y x.z t u,
          less_times (z.x *ℤ x.y) (z.y *ℤ x.x) s,
          less_times (z.x *ℤ x.z) (z.z *ℤ x.x) t,
          less_times (z.y *ℤ x.z) (z.z *ℤ x.y) u,
        )
