-- A point from which the two ends of an edge are seen as multiples of the edge's vector is on its
-- line, and on the edge where the product of the two factors is at most 0.

use Rattle.std.proofs.Common.{◌≡◌, ◌⊎◌, ◌∙◌, inl, inr, ap, sym, arith, ℤ, pos, neg_ℤ}
use Rattle.std.proofs.Common.{◌<ℤ◌, ◌≤ℤ◌, ◌+ℤ◌, ◌-ℤ◌, ◌*ℤ◌, true}
use Rattle.std.proofs.lemmas.Int.{ints}
use Rattle.std.proofs.lemmas.Bool.{and_from}
use Rattle.std.specs.Ordering.{int_eq}
use Rattle.std.specs.Cmp.{signed_Decides}
use Rattle.theory_numbers.specs.Arrows.{Arrow, cross, dot, scale}
use Rattle.theory_numbers.proofs.Vectors.Arrows.{same_arrow, cross-self, scale-cross, cross-scale}
use Rattle.theory_numbers.proofs.Vectors.Arrows.{scale-dot, dot-scale}
use Rattle.theory_numbers.proofs.Ring.{mul-zero, zero-mul, mul_comm, mul_assoc, neg-mul}
use Rattle.theory_numbers.proofs.Signs.{test_at_most, test_less, sign_cases}
use Rattle.theory_numbers.proofs.Products.{positive_square, weak_square}
use Rattle.theory_numbers.proofs.Products.{weak_negative_product, negative_product}
use Rattle.theory_numbers.proofs.Shapes.{var, minus, times, negated, equal}
use Rattle.sb_fraction.specs.declared.point.Point.{Point}
use Rattle.sb_fraction.specs.Spots.{Spot, spot}
use Rattle.sb_fraction.specs.Edges.{Edge, span_of, seen_from, turn_at, reach_at, is_on, is_within}

-- ---- vectors

-- a vector that another one turns from is not 0
pub length_if_turned : (a b : Arrow) → (cross a b ≡ pos 0 → ⊥) → pos 0 <ℤ dot a a
unfolding cross dot
length_if_turned a b turned = from (sign_cases a.x) (sign_cases a.y)
  where
    squares : ((a.x ≡ pos 0 → ⊥) ⊎ (a.y ≡ pos 0 → ⊥)) → pos 0 <ℤ ((a.x *ℤ a.x) +ℤ (a.y *ℤ a.y))
    squares (inl other) =
        let first = positive_square a.x other in
        let second = weak_square a.y in
        omega (arith, ints)
    squares (inr other) =
        let first = weak_square a.x in
        let second = positive_square a.y other in
        omega (arith, ints)

    none : a.x ≡ pos 0 → a.y ≡ pos 0 → (a.x *ℤ b.y) -ℤ (a.y *ℤ b.x) ≡ pos 0
    none first second =
        let one : a.x *ℤ b.y ≡ pos 0 = rw first (zero-mul b.y) in
        let other : a.y *ℤ b.x ≡ pos 0 = rw second (zero-mul b.x) in
        omega (arith, ints)

    from : ((pos 0 <ℤ a.x) ⊎ (a.x ≡ pos 0)) ⊎ (a.x <ℤ pos 0)
        → ((pos 0 <ℤ a.y) ⊎ (a.y ≡ pos 0)) ⊎ (a.y <ℤ pos 0)
        → pos 0 <ℤ ((a.x *ℤ a.x) +ℤ (a.y *ℤ a.y))
    from (inl (inl above)) _ = squares (inl (λ zero. omega (arith, ints)))
    from (inr below) _ = squares (inl (λ zero. omega (arith, ints)))
    from (inl (inr zero)) (inl (inl above)) = squares (inr (λ none. omega (arith, ints)))
    from (inl (inr zero)) (inr below) = squares (inr (λ none. omega (arith, ints)))
    from (inl (inr zero)) (inl (inr null)) = absurd (turned (none zero null))

-- two multiples of one vector do not turn from each other
pub cross-multiples : (k m : ℤ) (a : Arrow) → cross (scale k a) (scale m a) ≡ pos 0
cross-multiples k m a =
    scale-cross k a (scale m a)
    ∙ ap (λ n. k *ℤ n) (cross-scale m a a ∙ ap (λ n. m *ℤ n) (cross-self a) ∙ mul-zero m)
    ∙ mul-zero k

-- and their inner product is that of the vector with itself, times both factors
pub dot-multiples : (k m : ℤ) (a : Arrow)
    → dot (scale k a) (scale m a) ≡ (k *ℤ m) *ℤ dot a a
dot-multiples k m a =
    scale-dot k a (scale m a) ∙ ap (λ n. k *ℤ n) (dot-scale m a a)
    ∙ sym (mul_assoc k m (dot a a))

-- ---- a point by the ways to the ends

-- the ends of e are seen from p as k and m times its vector
pub record IsSeen (p : Spot) (e : Edge) (k m : ℤ) : Type 0 where
  pub first : seen_from p e.a ≡ scale k (span_of e)
  pub second : seen_from p e.b ≡ scale m (span_of e)

turn_of_seen : (p : Spot) (e : Edge) (k m : ℤ) → IsSeen p e k m → turn_at e p ≡ pos 0
turn_of_seen p e k m seen =
    rw (seen.first, seen.second) (cross-multiples k m (span_of e))

reach_of_seen : (p : Spot) (e : Edge) (k m : ℤ) → IsSeen p e k m
    → reach_at e p ≡ (k *ℤ m) *ℤ dot (span_of e) (span_of e)
reach_of_seen p e k m seen =
    rw (seen.first, seen.second) (dot-multiples k m (span_of e))

square_is_weak : (a : Arrow) → pos 0 ≤ℤ dot a a
unfolding dot
square_is_weak a =
    let first = weak_square a.x in let second = weak_square a.y in omega (arith, ints)

equal_test : (a b : ℤ) → a ≡ b → int_eq a b ≡ true
equal_test a b same = (signed_Decides a b).1 same

-- such a point is on the edge where the product of the two is at most 0
pub on_if_seen : (p : Spot) (e : Edge) (k m : ℤ) → IsSeen p e k m → (k *ℤ m) ≤ℤ pos 0
    → is_on p e ≡ true
on_if_seen p e k m seen low =
    let length = dot (span_of e) (span_of e) in
    let high = weak_negative_product length (k *ℤ m) (square_is_weak (span_of e)) low in
    let turned = mul_comm length (k *ℤ m) in
    let reach = reach_of_seen p e k m seen in
    and_from _ _
    (equal_test (turn_at e p) (pos 0) (turn_of_seen p e k m seen))
    (test_at_most (reach_at e p) (pos 0) (omega (arith, ints)))

-- and strictly inside where it is below 0
pub within_if_seen : (p : Spot) (e : Edge) (k m : ℤ) → IsSeen p e k m
    → pos 0 <ℤ dot (span_of e) (span_of e) → (k *ℤ m) <ℤ pos 0 → is_within p e ≡ true
within_if_seen p e k m seen length_in low =
    let length = dot (span_of e) (span_of e) in
    let high = negative_product length (k *ℤ m) length_in low in
    let turned = mul_comm length (k *ℤ m) in
    let reach = reach_of_seen p e k m seen in
    and_from _ _
    (equal_test (turn_at e p) (pos 0) (turn_of_seen p e k m seen))
    (test_less (reach_at e p) (pos 0) (omega (arith, ints)))

-- ---- the same point with a positive denominator

-- the same point with the signs of its numbers turned
abbrev pub turned_spot : Spot → Spot
turned_spot p = spot (neg_ℤ p.x) (neg_ℤ p.y) (neg_ℤ p.z) (neg_ℤ p.w)

turned_number : (a w x : ℤ) → (a *ℤ neg_ℤ w) -ℤ neg_ℤ x ≡ neg_ℤ ((a *ℤ w) -ℤ x)
turned_number a w x =
    equal (minus (times (var a) (negated (var w))) (negated (var x)))
    (negated (minus (times (var a) (var w)) (var x))) (omega arith)

-- from it the ends are seen as the opposite multiples
pub seen_turned : (p : Spot) (e : Edge) (k m : ℤ) → IsSeen p e k m
    → IsSeen (turned_spot p) e (neg_ℤ k) (neg_ℤ m)
seen_turned p e k m seen = record {
  first = way e.a k seen.first;
  second = way e.b m seen.second;
}
  where
    way : (a : Point) (n : ℤ) → seen_from p a ≡ scale n (span_of e)
        → seen_from (turned_spot p) a ≡ scale (neg_ℤ n) (span_of e)
    way a n same =
        same_arrow (seen_from (turned_spot p) a) (scale (neg_ℤ n) (span_of e))
        (turned_number a.x p.w p.x
        ∙ ap neg_ℤ (ap (λ (v : Arrow). v.x) same) ∙ sym (neg-mul n (span_of e).x))
        (turned_number a.y p.w p.y
        ∙ ap neg_ℤ (ap (λ (v : Arrow). v.y) same) ∙ sym (neg-mul n (span_of e).y))
