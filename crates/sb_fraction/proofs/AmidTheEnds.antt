-- An abscissa after a given one, before the next end of an edge that reaches past that one, lies
-- strictly between the ends of the edge.

use Rattle.std.proofs.Common.{◌≡◌, ◌⊎◌, ◌∙◌, inl, inr, ap, subst, sym, refl, arith, ℤ, pos}
use Rattle.std.proofs.Common.{◌<ℤ◌, ◌+ℤ◌, ◌-ℤ◌, ◌*ℤ◌, Bool, true, false, ◌||◌}
use Rattle.std.proofs.lemmas.Int.{ints}
use Rattle.std.specs.Ordering.{int_eq}
use Rattle.std.specs.Cmp.{signed_Decides}
use Rattle.theory_lists.specs.Parity.{differ}
use Rattle.theory_numbers.specs.Tests.{is_positive}
use Rattle.theory_numbers.specs.Arrows.{Arrow, cross, dot}
use Rattle.theory_numbers.specs.Rationals.{IsRational, IsBelow, IsAtMost, rational, is_below}
use Rattle.theory_numbers.proofs.Vectors.Arrows.{cross-self, cross-turn}
use Rattle.theory_numbers.proofs.Ring.{mul-one}
use Rattle.theory_numbers.proofs.Signs.{less_from, not_less_from}
use Rattle.theory_numbers.proofs.Fractions.Rationals.{below_or_not, at_most_trans, at_most_below_trans}
use Rattle.theory_numbers.proofs.Products.{positive_product, product_of_negatives}
use Rattle.theory_numbers.proofs.Shapes.{var, minus, plus, times, equal}
use Rattle.sb_fraction.specs.declared.point.Point.{Point}
use Rattle.sb_fraction.specs.Edges.{Edge, span_of}
use Rattle.sb_fraction.specs.Crossings.{abscissa_at, ends_over}
use Rattle.sb_fraction.specs.Lines.{place, flat, lies_after, reaches_past}
use Rattle.sb_fraction.proofs.Meetings.CrossingByGap.{IsAmid}

-- no end with this abscissa comes after w and up to u
abbrev IsNoEnd : ℤ → Arrow → Arrow → Type 0
IsNoEnd k w u = IsBelow w (rational k (pos 1)) → IsAtMost (rational k (pos 1)) u → ⊥

one_is_positive : pos 0 <ℤ pos 1
one_is_positive = omega (arith, ints)

-- an end after w is after each y up to u
still_before : (k : ℤ) (w y u : Arrow) → IsRational w → IsRational y → IsRational u
    → IsAtMost y u → IsNoEnd k w u → IsBelow w (rational k (pos 1))
    → IsBelow y (rational k (pos 1))
still_before k w y u w_in y_in u_in within none after =
    from (below_or_not y (rational k (pos 1)))
  where
    from : IsBelow y (rational k (pos 1)) ⊎ IsAtMost (rational k (pos 1)) y
        → IsBelow y (rational k (pos 1))
    from (inl below) = below
    from (inr low) =
        absurd (none after
        (at_most_trans (rational k (pos 1)) y u one_is_positive y_in u_in low within))

-- an end at or before w is before each y after w
already_after : (k : ℤ) (w y : Arrow) → IsRational w → IsRational y → IsBelow w y
    → is_positive (cross w (rational k (pos 1))) ≡ false → IsBelow (rational k (pos 1)) y
already_after k w y w_in y_in after answer =
    at_most_below_trans (rational k (pos 1)) w y one_is_positive w_in y_in
    (let turn = cross-turn w (rational k (pos 1)) in
    let low = not_less_from (pos 0) (cross w (rational k (pos 1))) answer in
    omega (arith, ints)) after

way_from : (k : ℤ) (y : Arrow) → cross y (rational k (pos 1)) ≡ (y.x *ℤ k) -ℤ y.y
unfolding cross
way_from k y = ap (λ n. (y.x *ℤ k) -ℤ n) (mul-one y.y)

between : (p q : ℤ) → (pos 0 <ℤ p) × (pos 0 <ℤ q) ⊎ (p <ℤ pos 0) × (q <ℤ pos 0)
    → pos 0 <ℤ (p *ℤ q)
between p q (inl above) = positive_product p q above.0 above.1
between p q (inr below) = product_of_negatives p q below.0 below.1

-- y lies strictly between the abscissae of two ends of which exactly one lies after w
amid_by : (a b : ℤ) (w y u : Arrow) → IsRational w → IsRational y → IsRational u → IsBelow w y
    → IsAtMost y u → IsNoEnd a w u → IsNoEnd b w u
    → (m n : Bool) → is_below w (rational a (pos 1)) ≡ m → is_below w (rational b (pos 1)) ≡ n
    → differ m n ≡ true → pos 0 <ℤ ((y.y -ℤ (y.x *ℤ a)) *ℤ ((y.x *ℤ b) -ℤ y.y))
amid_by a b w y u w_in y_in u_in after within none_a none_b true false first second apart =
    let beyond = still_before a w y u w_in y_in u_in within none_a
    (less_from (pos 0) (cross w (rational a (pos 1))) first) in
    let behind = already_after b w y w_in y_in after second in
    let turn = cross-turn (rational b (pos 1)) y in
    let at_a = way_from a y in
    let at_b = way_from b y in
    between (y.y -ℤ (y.x *ℤ a)) ((y.x *ℤ b) -ℤ y.y)
    (inr (omega (arith, ints), omega (arith, ints)))
amid_by a b w y u w_in y_in u_in after within none_a none_b false true first second apart =
    let beyond = still_before b w y u w_in y_in u_in within none_b
    (less_from (pos 0) (cross w (rational b (pos 1))) second) in
    let behind = already_after a w y w_in y_in after first in
    let turn = cross-turn (rational a (pos 1)) y in
    let at_a = way_from a y in
    let at_b = way_from b y in
    between (y.y -ℤ (y.x *ℤ a)) ((y.x *ℤ b) -ℤ y.y)
    (inl (omega (arith, ints), omega (arith, ints)))
amid_by a b w y u w_in y_in u_in after within none_a none_b true true first second apart =
    absurd (cc)
amid_by a b w y u w_in y_in u_in after within none_a none_b false false first second apart =
    absurd (cc)

-- the abscissa of a plan point, by its place
pub abscissa_of_place : (d : Arrow) (p : Point) → abscissa_at p (flat d) ≡ dot d (place p)
unfolding dot
abscissa_of_place d p =
    equal (plus (times (var p.x) (var d.x)) (times (var p.y) (var d.y)))
    (plus (times (var d.x) (var p.x)) (times (var d.y) (var p.y))) (omega arith)

-- the end of an edge lies its vector further
pub end_of_span : (d : Arrow) (e : Edge)
    → dot d (place e.a) +ℤ dot d (span_of e) ≡ dot d (place e.b)
unfolding dot
end_of_span d e =
    equal
    (plus (plus (times (var d.x) (var e.a.x)) (times (var d.y) (var e.a.y)))
    (plus (times (var d.x) (minus (var e.b.x) (var e.a.x)))
    (times (var d.y) (minus (var e.b.y) (var e.a.y)))))
    (plus (times (var d.x) (var e.b.x)) (times (var d.y) (var e.b.y))) (omega arith)

first_or : (a b : Bool) → a ≡ true → (a || b) ≡ true
first_or a b test = rw test refl

second_or : (a b : Bool) → b ≡ true → (a || b) ≡ true
second_or true b test = refl
second_or false b test = test

same_test : (r : Arrow) → int_eq (cross r r) (pos 0) ≡ true
same_test r = (signed_Decides (cross r r) (pos 0)).1 (cross-self r)

-- where no end comes after w and up to u, each y between is amid the ends of an edge that reaches
-- past w
pub amid_the_ends : (d : Arrow) (e : Edge) (w y u : Arrow) → IsRational w → IsRational y
    → IsRational u → IsBelow w y → IsAtMost y u → reaches_past d w e ≡ true
    → ((z : Arrow) → IsRational z → IsBelow w z → IsAtMost z u
    → ends_over (flat d) z e ≡ true → ⊥)
    → IsAmid (dot d (place e.a)) (dot d (span_of e)) y
amid_the_ends d e w y u w_in y_in u_in after within reaches none =
    let a = abscissa_at e.a (flat d) in
    let b = abscissa_at e.b (flat d) in
    let amid = amid_by a b w y u w_in y_in u_in after within
    (λ beyond low.
    none (rational a (pos 1)) one_is_positive beyond low
    (first_or (int_eq (cross (rational a (pos 1)) (rational a (pos 1))) (pos 0))
    (int_eq (cross (rational a (pos 1)) (rational b (pos 1))) (pos 0))
    (same_test (rational a (pos 1)))))
    (λ beyond low.
    none (rational b (pos 1)) one_is_positive beyond low
    (second_or (int_eq (cross (rational b (pos 1)) (rational a (pos 1))) (pos 0))
    (int_eq (cross (rational b (pos 1)) (rational b (pos 1))) (pos 0))
    (same_test (rational b (pos 1)))))
    (lies_after d w e.a) (lies_after d w e.b) refl refl reaches in
    let first = abscissa_of_place d e.a in
    let second : b ≡ dot d (place e.a) +ℤ dot d (span_of e) =
    abscissa_of_place d e.b ∙ sym (end_of_span d e) in
    subst (λ m. pos 0 <ℤ ((y.y -ℤ (y.x *ℤ dot d (place e.a))) *ℤ ((y.x *ℤ m) -ℤ y.y))) second
    (subst (λ m. pos 0 <ℤ ((y.y -ℤ (y.x *ℤ m)) *ℤ ((y.x *ℤ b) -ℤ y.y))) first amid)

-- the two ends of an edge that reaches past a number have different abscissae
pub moves_if_reaches : (d : Arrow) (e : Edge) (w : Arrow) → reaches_past d w e ≡ true
    → dot d (span_of e) ≡ pos 0 → ⊥
moves_if_reaches d e w reaches zero =
    let span = end_of_span d e in
    let first = abscissa_of_place d e.a in
    let second = abscissa_of_place d e.b in
    let same : abscissa_at e.a (flat d) ≡ abscissa_at e.b (flat d) = omega (arith, ints) in
    clash (lies_after d w e.a) (lies_after d w e.b)
    (ap (λ k. is_below w (rational k (pos 1))) same) reaches
  where
    clash : (m n : Bool) → m ≡ n → differ m n ≡ true → ⊥
    clash true true same apart = cc
    clash true false same apart = cc
    clash false true same apart = cc
    clash false false same apart = cc
