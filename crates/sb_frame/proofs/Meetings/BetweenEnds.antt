-- A fraction that two numbers do not leave on one side lies between the lesser and the greater.

use Rattle.std.proofs.Common.{arith, ℤ, pos, ◌<ℤ◌, ◌≤ℤ◌, ◌-ℤ◌, ◌*ℤ◌}
use Rattle.std.specs.Int.{int_min, int_max}
use Rattle.std.proofs.lemmas.Int.{ints, by_lt_z}
use Rattle.theory_numbers.proofs.Products.{positive_product, product_of_negatives, scale_at_most}
use Rattle.theory_numbers.proofs.Ring.{mul_comm}
use Rattle.theory_numbers.proofs.Signs.{test_less, test_not_less}

-- ---- the lesser and the greater of two

min_is : (a b : ℤ) → (int_min a b ≤ℤ a) × (int_min a b ≤ℤ b)
min_is a b =
    by_lt_z b a (λ less. rw (test_less b a less) (omega (arith, ints), omega (arith, ints)))
    (λ most. rw (test_not_less b a most) (omega (arith, ints), omega (arith, ints)))

max_is : (a b : ℤ) → (a ≤ℤ int_max a b) × (b ≤ℤ int_max a b)
max_is a b =
    by_lt_z b a (λ less. rw (test_less b a less) (omega (arith, ints), omega (arith, ints)))
    (λ most. rw (test_not_less b a most) (omega (arith, ints), omega (arith, ints)))

scaled_at_most : (w : ℤ) → pos 0 <ℤ w → (a m : ℤ) → a ≤ℤ m → (a *ℤ w) ≤ℤ (m *ℤ w)
scaled_at_most w w_is a m most =
    let grown = scale_at_most w a m (omega (arith, ints)) most in
    let turned = mul_comm a w in
    let turned_m = mul_comm m w in
    omega (arith, ints)

-- ---- the fraction x/w between two numbers

module _ (a b x w : ℤ) (w_is : pos 0 <ℤ w)
    (facing : (((a *ℤ w) -ℤ x) *ℤ ((b *ℤ w) -ℤ x)) ≤ℤ pos 0) where
  -- it is at least the lesser
  pub from_least : (int_min a b *ℤ w) ≤ℤ x
  from_least =
      by_lt_z x (int_min a b *ℤ w)
      (λ less.
      let least = min_is a b in
      let at_a = scaled_at_most w w_is (int_min a b) a least.0 in
      let at_b = scaled_at_most w w_is (int_min a b) b least.1 in
      let product = positive_product ((a *ℤ w) -ℤ x) ((b *ℤ w) -ℤ x)
      (omega (arith, ints)) (omega (arith, ints)) in
      let low = facing in
      absurd (omega (arith, ints)))
      (λ most. most)

  -- and at most the greater
  pub to_greatest : x ≤ℤ (int_max a b *ℤ w)
  to_greatest =
      by_lt_z (int_max a b *ℤ w) x
      (λ less.
      let most = max_is a b in
      let at_a = scaled_at_most w w_is a (int_max a b) most.0 in
      let at_b = scaled_at_most w w_is b (int_max a b) most.1 in
      let product = product_of_negatives ((a *ℤ w) -ℤ x) ((b *ℤ w) -ℤ x)
      (omega (arith, ints)) (omega (arith, ints)) in
      let low = facing in
      absurd (omega (arith, ints)))
      (λ least. least)
