-- A test of order or of equality gives one answer for two numbers and for their positive multiples.
use Rattle.std.proofs.Common.{◌≡◌, sym, ap, ◌∙◌, arith, ℤ, pos, ◌<ℤ◌, ◌*ℤ◌, int_lt, int_le}
use Rattle.std.specs.Ordering.{int_eq}
use Rattle.std.proofs.lemmas.Int.{ints}
use Rattle.std.proofs.lemmas.Bool.Decides.{Decides-int_eq}
use Rattle.theory_numbers.proofs.Signs.{same_less, same_tests, test_at_most, at_most_from}
use Rattle.theory_numbers.proofs.Products.{positive_product, positive_factor, negative_product}
use Rattle.theory_numbers.proofs.Products.{negative_factor, weak_negative_product}
use Rattle.theory_numbers.proofs.Products.{weak_negative_factor, scale_less, unscale_less}
use Rattle.theory_numbers.proofs.Products.{unscale_equal}
use Rattle.theory_numbers.proofs.Ring.{mul-zero}

-- of one sign
pub sign_of_multiple : (k a : ℤ) → pos 0 <ℤ k → int_lt (pos 0) (k *ℤ a) ≡ int_lt (pos 0) a
sign_of_multiple k a above =
    same_less (pos 0) (k *ℤ a) (pos 0) a (positive_factor k a above)
    (λ less. positive_product k a above less)

-- of the other sign
pub other_sign_of_multiple : (k a : ℤ) → pos 0 <ℤ k → int_lt (k *ℤ a) (pos 0) ≡ int_lt a (pos 0)
other_sign_of_multiple k a above =
    same_less (k *ℤ a) (pos 0) a (pos 0) (negative_factor k a above)
    (λ less. negative_product k a above less)

-- of two multiples
pub order_of_multiples : (k a b : ℤ) → pos 0 <ℤ k → int_lt (k *ℤ a) (k *ℤ b) ≡ int_lt a b
order_of_multiples k a b above =
    same_less (k *ℤ a) (k *ℤ b) a b (unscale_less k a b (omega (arith, ints)))
    (λ less. scale_less k a b above less)

-- whether they are equal
pub equality_of_multiples : (k a b : ℤ) → pos 0 <ℤ k → int_eq (k *ℤ a) (k *ℤ b) ≡ int_eq a b
equality_of_multiples k a b above =
    same_tests (int_eq (k *ℤ a) (k *ℤ b)) (int_eq a b)
    (λ same. (Decides-int_eq a b).1
    (unscale_equal k a b (λ none. omega (arith, ints)) ((Decides-int_eq (k *ℤ a) (k *ℤ b)).0 same)))
    (λ same. (Decides-int_eq (k *ℤ a) (k *ℤ b)).1 (ap (λ n. k *ℤ n) ((Decides-int_eq a b).0 same)))

-- whether one is 0
pub zero_of_multiple : (k a : ℤ) → pos 0 <ℤ k → int_eq (k *ℤ a) (pos 0) ≡ int_eq a (pos 0)
zero_of_multiple k a above =
    ap (int_eq (k *ℤ a)) (sym (mul-zero k)) ∙ equality_of_multiples k a (pos 0) above

-- whether one is at most 0
pub weak_sign_of_multiple : (k a : ℤ) → pos 0 <ℤ k → int_le (k *ℤ a) (pos 0) ≡ int_le a (pos 0)
weak_sign_of_multiple k a above =
    same_tests (int_le (k *ℤ a) (pos 0)) (int_le a (pos 0))
    (λ least. test_at_most a (pos 0)
    (weak_negative_factor k a above (at_most_from (k *ℤ a) (pos 0) least)))
    (λ least. test_at_most (k *ℤ a) (pos 0)
    (weak_negative_product k a (omega (arith, ints)) (at_most_from a (pos 0) least)))
