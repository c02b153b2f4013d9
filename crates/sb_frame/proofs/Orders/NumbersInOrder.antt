-- The order of rational numbers is an order of whatever has such a number.

use Rattle.std.proofs.Common.{◌≡◌, ◌⊎◌, inl, inr, sym, ap, ◌∙◌, arith, ℤ, pos, ◌-ℤ◌, ◌*ℤ◌}
use Rattle.std.specs.Cmp.{IsTotalOrder, int_cmp_is}
use Rattle.std.specs.declared.cmp.Ordering.TheVariants.{Less, Equal, Greater}
use Rattle.std.specs.Ordering.{int_cmp, ordering_reverse}
use Rattle.std.proofs.lemmas.Int.{ints, by_lt_z}
use Rattle.theory_numbers.specs.Arrows.{Arrow, cross}
use Rattle.theory_numbers.specs.Rationals.{rational, IsRational, IsBelow, IsSame, IsAtMost}
use Rattle.theory_numbers.proofs.Vectors.Arrows.{cross-turn}
use Rattle.theory_numbers.proofs.Ring.{mul_comm}
use Rattle.theory_numbers.proofs.Fractions.Rationals.{below_trans, number_cases, same_sym, same_trans}
use Rattle.theory_numbers.proofs.Fractions.Rationals.{at_most_below_trans, below_at_most_trans}
use Rattle.sb_fraction.specs.Numbers.{order_of}

-- ---- by where two numbers lie

pub less_order : (r s : Arrow) → IsBelow r s → order_of r s ≡ Less
less_order r s below = grind (arith, ints)

pub same_order : (r s : Arrow) → IsSame r s → order_of r s ≡ Equal
same_order r s same = grind (arith, ints)

pub greater_order : (r s : Arrow) → IsBelow s r → order_of r s ≡ Greater
greater_order r s below = let turn = cross-turn r s in grind (arith, ints)

pub below_from : (r s : Arrow) → order_of r s ≡ Less → IsBelow r s
below_from r s less = from (number_cases r s)
  where
    from : (IsBelow r s ⊎ IsSame r s) ⊎ IsBelow s r → IsBelow r s
    from (inl (inl below)) = below
    from (inl (inr same)) = absurd (let e = same_order r s same in cc)
    from (inr beyond) = absurd (let e = greater_order r s beyond in cc)

pub same_from : (r s : Arrow) → order_of r s ≡ Equal → IsSame r s
same_from r s equal = from (number_cases r s)
  where
    from : (IsBelow r s ⊎ IsSame r s) ⊎ IsBelow s r → IsSame r s
    from (inl (inl below)) = absurd (let e = less_order r s below in cc)
    from (inl (inr same)) = same
    from (inr beyond) = absurd (let e = greater_order r s beyond in cc)

at_most_if_same : (r s : Arrow) → IsSame r s → IsAtMost r s
at_most_if_same r s same = omega (arith, ints, same)

-- ---- of what has a number

module _ {X : Type 0} (num : X → Arrow) (num_in : (x : X) → IsRational (num x)) where
  turned : (a b : X) → (IsBelow (num a) (num b) ⊎ IsSame (num a) (num b)) ⊎ IsBelow (num b) (num a)
      → order_of (num a) (num b) ≡ ordering_reverse (order_of (num b) (num a))
  turned a b (inl (inl below)) =
      less_order (num a) (num b) below
      ∙ sym (ap ordering_reverse (greater_order (num b) (num a) below))
  turned a b (inl (inr same)) =
      same_order (num a) (num b) same
      ∙ sym (ap ordering_reverse (same_order (num b) (num a) (same_sym (num a) (num b) same)))
  turned a b (inr beyond) =
      greater_order (num a) (num b) beyond
      ∙ sym (ap ordering_reverse (less_order (num b) (num a) beyond))

  alike : (a b c : X) → IsSame (num a) (num b)
      → (IsBelow (num b) (num c) ⊎ IsSame (num b) (num c)) ⊎ IsBelow (num c) (num b)
      → order_of (num a) (num c) ≡ order_of (num b) (num c)
  alike a b c same (inl (inl below)) =
      less_order (num a) (num c)
      (at_most_below_trans (num a) (num b) (num c) (num_in a) (num_in b) (num_in c)
      (at_most_if_same (num a) (num b) same) below)
      ∙ sym (less_order (num b) (num c) below)
  alike a b c same (inl (inr also)) =
      same_order (num a) (num c) (same_trans (num a) (num b) (num c) (num_in b) same also)
      ∙ sym (same_order (num b) (num c) also)
  alike a b c same (inr beyond) =
      greater_order (num a) (num c)
      (below_at_most_trans (num c) (num b) (num a) (num_in c) (num_in b) (num_in a) beyond
      (at_most_if_same (num b) (num a) (same_sym (num a) (num b) same)))
      ∙ sym (greater_order (num b) (num c) beyond)

  pub numbers_total : IsTotalOrder (λ a b. order_of (num a) (num b))
  numbers_total =
      record {
        antisymm = λ a b. turned a b (number_cases (num a) (num b));
        trans =
            λ a b c first second.
            less_order (num a) (num c)
            (below_trans (num a) (num b) (num c) (num_in a) (num_in b) (num_in c)
            (below_from (num a) (num b) first) (below_from (num b) (num c) second));
        congr =
            λ a b c equal.
            alike a b c (same_from (num a) (num b) equal) (number_cases (num b) (num c));
      }

-- ---- by products

difference_order : (x y : ℤ) → int_cmp x y ≡ int_cmp (pos 0) (y -ℤ x)
difference_order x y =
    by_lt_z x y
    (λ less. sym (int_cmp_is x y Less less)
    ∙ int_cmp_is (pos 0) (y -ℤ x) Less (omega (arith, ints)))
    (λ low.
    by_lt_z y x
    (λ more.
    sym (int_cmp_is x y Greater more) ∙ int_cmp_is (pos 0) (y -ℤ x) Greater (omega (arith, ints)))
    (λ high.
    sym (int_cmp_is x y Equal (omega (arith, ints)))
    ∙ int_cmp_is (pos 0) (y -ℤ x) Equal (omega (arith, ints))))

-- the order of a/m and b/n is that of their products across
pub order_by_products : (a m b n : ℤ)
    → int_cmp (a *ℤ n) (b *ℤ m) ≡ order_of (rational a m) (rational b n)
unfolding cross
order_by_products a m b n =
    difference_order (a *ℤ n) (b *ℤ m)
    ∙ ap (λ k. int_cmp (pos 0) (k -ℤ (a *ℤ n))) (mul_comm b m)
