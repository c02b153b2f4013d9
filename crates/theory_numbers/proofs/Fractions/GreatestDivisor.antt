-- Euclid's remainders end at the greatest common divisor, and dividing by it leaves no common
-- divisor.

use Rattle.std.proofs.Common.{ℕ, zero, suc, ◌+◌, ◌*◌, ◌%◌, ◌/◌, ◌<◌, ◌≡◌, refl, subst, arith, sym}
use Rattle.std.proofs.Common.{ap, true}
use Rattle.std.specs.Int.{IsGcd, ◌∣◌}
use Rattle.std.proofs.lemmas.Nat.Gcd.{IsGcd-from_zero, IsGcd-from_mod, dvd_refl, dvd-zero}
use Rattle.std.proofs.lemmas.Nat.Gcd.{same_from_IsGcd}
use Rattle.std.proofs.Math.Nat.{one-dvd, mul-dvd-mul_right, div-mul_cancel, mod-one}
use Rattle.std.proofs.Math.Nat.{dvd_of_mul-dvd-mul_right, eq-zero_of_zero-dvd}
use Rattle.std.proofs.lemmas.Bool.{eq-eqb}
use Rattle.theory_numbers.specs.Divisors.{divisor_within, greatest_divisor, are_coprime}

-- enough remainders give the greatest common divisor
divisor_within_is : (steps a b : ℕ) → b < steps → IsGcd a b (divisor_within steps a b)
unfolding divisor_within
divisor_within_is zero a b enough = absurd (omega arith)
divisor_within_is (suc steps) a zero enough = IsGcd-from_zero a zero refl
divisor_within_is (suc steps) a (suc b) enough =
    let less : a % suc b < suc b = omega arith in
    IsGcd-from_mod a (suc b) _ (divisor_within_is steps (suc b) (a % suc b) (omega arith))

-- the greatest divisor is the greatest common divisor
pub greatest_divisor_is : (a b : ℕ) → IsGcd a b (greatest_divisor a b)
unfolding greatest_divisor
greatest_divisor_is a b = divisor_within_is (b + 1) a b (omega arith)

-- a number is 0 or positive
by_zero : {P : Type 0} (n : ℕ) → (n ≡ 0 → P) → (0 < n → P) → P
by_zero zero none some = none refl
by_zero (suc n) none some = some (omega arith)

-- the greatest common divisor with a positive number is positive
pub divisor_is_positive : (a b : ℕ) → 0 < b → 0 < greatest_divisor a b
divisor_is_positive a b positive =
    by_zero (greatest_divisor a b)
    (λ none. absurd (not_zero (eq-zero_of_zero-dvd
    (subst (λ n. n ∣ b) none (greatest_divisor_is a b).1))))
    (λ some. some)
  where
    not_zero : b ≡ 0 → ⊥
    not_zero none = omega arith

-- what is left after dividing by the greatest common divisor has none above 1
pub quotients_are_coprime : (a b g : ℕ) → 0 < g → IsGcd a b g → IsGcd (a / g) (b / g) 1
quotients_are_coprime a b g positive common = (
  one-dvd _,
  one-dvd _,
  λ d left right.
      let into : d * g ∣ g = common.2 (d * g)
      (subst (λ n. d * g ∣ n) (div-mul_cancel g common.0) (mul-dvd-mul_right d left g))
      (subst (λ n. d * g ∣ n) (div-mul_cancel g common.1) (mul-dvd-mul_right d right g)) in
      dvd_of_mul-dvd-mul_right d positive (subst (λ n. d * g ∣ n) (sym (one_mul g)) into),
)
  where
    one_mul : (n : ℕ) → 1 * n ≡ n
    one_mul n = omega arith

-- the greatest common divisor with 0 is the number
pub greatest_divisor-zero : (a : ℕ) → greatest_divisor a 0 ≡ a
unfolding divisor_within greatest_divisor
greatest_divisor-zero a = refl

-- and so it is of 0 and the number
pub zero-greatest_divisor : (b : ℕ) → greatest_divisor 0 b ≡ b
zero-greatest_divisor b =
    same_from_IsGcd _ _ _ _ (greatest_divisor_is 0 b)
    (dvd-zero b, dvd_refl b, λ d left right. right)

divisor_of_one : (n : ℕ) → greatest_divisor n 1 ≡ 1
unfolding greatest_divisor divisor_within
divisor_of_one n = ap (divisor_within 1 1) (mod-one n)

-- every number is coprime with 1
pub coprime-one : (n : ℕ) → are_coprime n 1 ≡ true
coprime-one n = eq-eqb _ _ (divisor_of_one n)
