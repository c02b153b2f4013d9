-- Two fractions are in the order of their cross products, and fractions that are equal as numbers
-- are equal.

use Rattle.std.proofs.Common.{◌≡◌, ◌≤◌, ◌↔◌, ◌∙◌, ap, subst, sym, arith, ℤ, pos, ◌<ℤ◌, ◌-ℤ◌}
use Rattle.std.proofs.Common.{◌*ℤ◌, unsigned_abs, nat_le, IsTrue, Less, Equal, Greater}
use Rattle.std.proofs.Common.{le_trans, lit≤}
use Rattle.std.proofs.lemmas.Bool.{and_parts, leb-true}
use Rattle.std.proofs.lemmas.Int.{to_z-of_z, ints, by_lt_z}
use Rattle.std.specs.Ordering.{int_cmp, MatchOrdering}
use Rattle.std.specs.Cmp.{int_cmp_is, int_ranks}
use Rattle.theory_numbers.specs.Arrows.{Arrow, cross}
use Rattle.theory_numbers.proofs.Vectors.Arrows.{cross-self}
use Rattle.theory_numbers.specs.Fractions.{Ratio, is_lowest}
use Rattle.theory_numbers.proofs.Ring.{mul_comm}
use Rattle.theory_numbers.proofs.Fractions.LowestTerms.{lowest_is_reduced}
use Rattle.theory_numbers.proofs.Fractions.Reduced.{fraction_unique}
use Rattle.sb_fraction.specs.Numbers.{number, order_of, ratio}
use Rattle.sb_fraction.specs.Bounds.{is_fraction, is_in_bounds, is_abscissa_size}
use Rattle.sb_fraction.specs.Bounds.{greatest_abscissa, greatest_cross, greatest_offset}

-- the order of two numbers is that of 0 and their difference
int_cmp-difference : (x y : ℤ) → int_cmp x y ≡ int_cmp (pos 0) (y -ℤ x)
int_cmp-difference x y =
    by_lt_z x y
    (λ less. sym (int_cmp_is x y Less less)
    ∙ int_cmp_is (pos 0) (y -ℤ x) Less (omega (arith, ints)))
    (λ low.
    by_lt_z y x
    (λ more.
    sym (int_cmp_is x y Greater more) ∙ int_cmp_is (pos 0) (y -ℤ x) Greater (omega (arith, ints)))
    (λ high.
    sym (int_cmp_is x y Equal (omega (arith, ints)))
    ∙ int_cmp_is (pos 0) (y -ℤ x) Equal (omega (arith, ints))))

-- the cross products of two fractions are in the order of the fractions
pub order_by_products : (a b : Ratio)
    → int_cmp (a.num *ℤ b.den) (b.num *ℤ a.den) ≡ order_of (number a) (number b)
unfolding cross
order_by_products a b =
    int_cmp-difference (a.num *ℤ b.den) (b.num *ℤ a.den)
    ∙ ap (int_cmp (pos 0)) (difference a.num a.den b.num b.den)
  where
    difference : (n d m e : ℤ) → (m *ℤ d) -ℤ (n *ℤ e) ≡ (d *ℤ m) -ℤ (n *ℤ e)
    difference n d m e = ap (λ k. k -ℤ (n *ℤ e)) (mul_comm m d)

-- an abscissa's numerator may be multiplied with a denominator
pub numerator_fits : (r : Ratio) → IsTrue (is_abscissa_size r)
    → unsigned_abs r.num ≤ greatest_offset
numerator_fits r size =
    let parts = and_parts (nat_le (unsigned_abs r.num) greatest_abscissa)
    (nat_le (unsigned_abs r.den) greatest_cross) size in
    le_trans (leb-true (unsigned_abs r.num) greatest_abscissa parts.0) (lit≤ tt)

-- and its denominator with a numerator
pub denominator_fits : (r : Ratio) → IsTrue (is_abscissa_size r)
    → unsigned_abs r.den ≤ greatest_cross
denominator_fits r size =
    let parts = and_parts (nat_le (unsigned_abs r.num) greatest_abscissa)
    (nat_le (unsigned_abs r.den) greatest_cross) size in
    leb-true (unsigned_abs r.den) greatest_cross parts.1

same_ratio : (a b : Ratio) → a.num ≡ b.num → a.den ≡ b.den → a ≡ b
same_ratio a b same_num same_den =
    let whole : ratio a.num a.den ≡ ratio b.num b.den = cc in whole

-- what compares equal with 0 is 0
pub equal_is_zero : (z : ℤ) → int_cmp (pos 0) z ≡ Equal → z ≡ pos 0
equal_is_zero z answer = sym (subst (λ o. MatchOrdering o (pos 0 <ℤ z) (pos 0 ≡ z) (z <ℤ pos 0))
    answer (int_ranks (pos 0) z))

-- fractions in lowest terms are equal as numbers exactly where they are equal
pub equal_order : (a b : Ratio) → IsTrue (is_fraction a) → IsTrue (is_fraction b)
    → (order_of (number a) (number b) ≡ Equal) ↔ (a ≡ b)
equal_order a b a_in b_in = (to, from)
  where
    to : order_of (number a) (number b) ≡ Equal → a ≡ b
    to answer =
        let a_lowest = (and_parts (is_lowest a) (is_in_bounds a) a_in).0 in
        let b_lowest = (and_parts (is_lowest b) (is_in_bounds b) b_in).0 in
        let same = fraction_unique (number a) (number b) (lowest_is_reduced a a_lowest)
        (lowest_is_reduced b b_lowest) (equal_is_zero (cross (number a) (number b)) answer) in
        same_ratio a b (ap (λ (r : Arrow). r.y) same) (ap (λ (r : Arrow). r.x) same)

    from : a ≡ b → order_of (number a) (number b) ≡ Equal
    from same =
        rw same (sym (int_cmp_is (pos 0) (cross (number b) (number b)) Equal
        (sym (cross-self (number b)))))

-- for `compare`
pub ruleset fractions = (to_z-of_z, numerator_fits, denominator_fits)
