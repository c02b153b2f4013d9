-- A fraction divided by its greatest common divisor is in lowest terms and the same number.

use Rattle.std.proofs.Common.{ℕ, ℤ, pos, negsuc, neg_ℤ, suc, ◌*◌, ◌/◌, ◌<◌, ◌<ℤ◌, ◌*ℤ◌, ◌≡◌}
use Rattle.std.proofs.Common.{zero, true, IsTrue, unsigned_abs, refl, arith, int_lt, ap}
use Rattle.std.proofs.Common.{sym, ◌∙◌, mul_assoc, subst, ap₂, ◌+ℤ◌}
use Rattle.std.specs.Int.{IsGcd, ◌∣◌}
use Rattle.std.proofs.lemmas.Int.{ints, unsigned_abs-mul}
use Rattle.std.proofs.lemmas.Bool.{and_from, and_parts, eq-eqb, eqb-true}
use Rattle.std.proofs.lemmas.Nat.Gcd.{same_from_IsGcd, dvd_refl, dvd_trans}
use Rattle.std.proofs.Math.Nat.{div-mul_cancel, mul-div_cancel', mul-div_cancel}
use Rattle.std.proofs.Math.Nat.{div-one, zero-div, dvd-mul_left, dvd-mul_right, one-dvd, div_self}
use Rattle.theory_numbers.specs.Divisors.{greatest_divisor, are_coprime}
use Rattle.theory_numbers.specs.Fractions.{Ratio, reduced, divided, is_lowest, whole}
use Rattle.theory_numbers.proofs.Fractions.GreatestDivisor.{greatest_divisor_is, divisor_is_positive}
use Rattle.theory_numbers.proofs.Fractions.GreatestDivisor.{quotients_are_coprime}
use Rattle.theory_numbers.specs.Reduced.{IsReduced}
use Rattle.theory_numbers.proofs.Shapes.{var, plus, times, negated, equal}
use Rattle.theory_numbers.proofs.Ring.{mul-one, mul_comm, mul-add}
use Rattle.theory_numbers.proofs.Signs.{less_from}

-- the size of a number with its sign changed
abs-neg : (n : ℕ) → unsigned_abs (neg_ℤ (pos n)) ≡ n
abs-neg zero = refl
abs-neg (suc n) = refl

-- the size of a divided number is the divided size
pub abs-divided : (z : ℤ) (d : ℕ) → unsigned_abs (divided z d) ≡ unsigned_abs z / d
abs-divided (pos n) d = refl
abs-divided (negsuc n) d = abs-neg (suc n / d)

size_is_positive : (z : ℤ) → pos 0 <ℤ z → 0 < unsigned_abs z
size_is_positive z h = omega (arith, ints)

-- the divisor of a numerator and a positive denominator is positive
pub common_is_positive : (num den : ℤ) → pos 0 <ℤ den
    → 0 < greatest_divisor (unsigned_abs num) (unsigned_abs den)
common_is_positive num den positive = divisor_is_positive _ _ (size_is_positive den positive)

-- a quotient of a positive number that leaves nothing is positive
quotient_is_positive : (n d q : ℕ) → q * d ≡ n → 0 < n → int_lt (pos 0) (pos q) ≡ true
quotient_is_positive n d zero whole positive = absurd (omega arith)
quotient_is_positive n d (suc q) whole positive = grind (arith, ints)

-- a positive number divided by a divisor of it is positive
divided_is_positive : (z : ℤ) (d : ℕ) → pos 0 <ℤ z → d ∣ unsigned_abs z
    → int_lt (pos 0) (divided z d) ≡ true
divided_is_positive (pos n) d positive divides =
    quotient_is_positive n d (n / d) (div-mul_cancel d divides) (omega (arith, ints))
divided_is_positive (negsuc n) d positive divides = absurd (omega (arith, ints))

are_coprime_from : (a b : ℕ) → IsGcd a b 1 → are_coprime a b ≡ true
are_coprime_from a b common = eq-eqb _ _ (same_from_IsGcd _ _ _ _ (greatest_divisor_is a b) common)

zero_mul : (n : ℕ) → 0 * n ≡ 0
zero_mul n = omega arith

same_product : (a b g : ℕ) → g ∣ a → g ∣ b → a / g * b ≡ a * (b / g)
same_product a b g left right =
    ap (λ n. a / g * n) (sym (mul-div_cancel' g right))
    ∙ sym (mul_assoc (a / g) g (b / g))
    ∙ ap (λ n. n * (b / g)) (div-mul_cancel g left)

neg-*ℤ : (q n : ℕ) → neg_ℤ (pos q) *ℤ pos n ≡ neg_ℤ (pos (q * n))
neg-*ℤ zero n = ap pos (zero_mul n) ∙ ap (λ k. neg_ℤ (pos k)) (sym (zero_mul n))
neg-*ℤ (suc q) n = refl

-- a number is its divisor times the quotient
pub times_quotient : (z : ℤ) (g : ℕ) → g ∣ unsigned_abs z → z ≡ pos g *ℤ divided z g
times_quotient (pos n) g divides =
    let whole = div-mul_cancel g divides in omega (arith, ints)
times_quotient (negsuc n) g divides =
    sym
    (mul_comm (pos g) (neg_ℤ (pos (suc n / g))) ∙ neg-*ℤ (suc n / g) g
    ∙ ap (λ k. neg_ℤ (pos k)) (div-mul_cancel g divides))

-- what divides two numbers divides their sum
pub divides_sum : (g : ℕ) (a b : ℤ) → g ∣ unsigned_abs a → g ∣ unsigned_abs b
    → g ∣ unsigned_abs (a +ℤ b)
divides_sum g a b left right =
    let whole =
    ap₂ (λ x y. x +ℤ y) (times_quotient a g left) (times_quotient b g right)
    ∙ sym (mul-add (pos g) (divided a g) (divided b g))
    in
    subst (λ n. g ∣ n)
    (sym (ap unsigned_abs whole ∙ unsigned_abs-mul (pos g) (divided a g +ℤ divided b g)))
    (dvd-mul_right g (unsigned_abs (divided a g +ℤ divided b g)))

-- what divides a number divides its multiples
pub divides_multiple : (g : ℕ) (k a : ℤ) → g ∣ unsigned_abs a → g ∣ unsigned_abs (k *ℤ a)
divides_multiple g k a divides =
    subst (λ n. g ∣ n) (sym (unsigned_abs-mul k a))
    (dvd_trans g divides (dvd-mul_left (unsigned_abs a) (unsigned_abs k)))

-- a fraction is reduced wherever it is moved by a whole number
pub moved_is_reduced : (x num den : ℤ) → IsReduced num den → IsReduced (num +ℤ (x *ℤ den)) den
moved_is_reduced x num den is = record {
  positive = is.positive;
  no_divisor = (
    one-dvd _,
    one-dvd _,
    λ g of_sum of_den.
        is.no_divisor.2 g
        (subst (λ z. g ∣ unsigned_abs z) back
        (divides_sum g (num +ℤ (x *ℤ den)) (neg_ℤ x *ℤ den) of_sum
        (divides_multiple g (neg_ℤ x) den of_den)))
        of_den,
  );
}
  where
    back : (num +ℤ (x *ℤ den)) +ℤ (neg_ℤ x *ℤ den) ≡ num
    back =
        equal (plus (plus (var num) (times (var x) (var den))) (times (negated (var x)) (var den)))
        (var num) (omega arith)

-- a divisor of both may be taken from either factor
divided-*ℤ : (a b : ℤ) (g : ℕ) → pos 0 <ℤ b → g ∣ unsigned_abs a → g ∣ unsigned_abs b
    → divided a g *ℤ b ≡ a *ℤ divided b g
divided-*ℤ (pos m) (pos n) g positive left right = ap pos (same_product m n g left right)
divided-*ℤ (negsuc m) (pos n) g positive left right =
    neg-*ℤ (suc m / g) n ∙ ap (λ k. neg_ℤ (pos k)) (same_product (suc m) n g left right)
divided-*ℤ a (negsuc n) g positive left right = absurd (omega (arith, ints))

-- the two parts divided by their greatest common divisor
lowest_terms_at : (num den : ℤ) (g : ℕ) → 0 < g
    → IsGcd (unsigned_abs num) (unsigned_abs den) g
    → IsGcd (unsigned_abs (divided num g)) (unsigned_abs (divided den g)) 1
lowest_terms_at num den g positive common =
    rw (abs-divided num g, abs-divided den g) (quotients_are_coprime _ _ g positive common)

-- dividing by the greatest common divisor gives lowest terms
pub reduced_is_lowest : (num den : ℤ) → pos 0 <ℤ den → IsTrue (is_lowest (reduced num den))
unfolding reduced
reduced_is_lowest num den positive =
    let g = greatest_divisor (unsigned_abs num) (unsigned_abs den) in
    let common : IsGcd (unsigned_abs num) (unsigned_abs den) g = greatest_divisor_is _ _ in
    and_from _ _
    (divided_is_positive den g positive common.1)
    (are_coprime_from _ _ (lowest_terms_at num den g (common_is_positive num den positive) common))

-- dividing by the greatest common divisor keeps the number
pub reduced_is_same : (num den : ℤ) → pos 0 <ℤ den
    → (reduced num den).num *ℤ den ≡ num *ℤ (reduced num den).den
unfolding reduced
reduced_is_same num den positive =
    let common = greatest_divisor_is (unsigned_abs num) (unsigned_abs den) in
    divided-*ℤ num den _ positive common.0 common.1

-- a number divided by 1
divided-one : (z : ℤ) → divided z 1 ≡ z
divided-one (pos n) = ap pos (div-one n)
divided-one (negsuc n) = ap (λ k. neg_ℤ (pos k)) (div-one (suc n))

-- a fraction in lowest terms is what its parts reduce to
pub reduced-lowest : (r : Ratio) → IsTrue (is_lowest r) → reduced r.num r.den ≡ r
unfolding reduced
reduced-lowest r lowest =
    let parts = and_parts (int_lt (pos 0) r.den)
    (are_coprime (unsigned_abs r.num) (unsigned_abs r.den)) lowest in
    rw (eqb-true _ 1 parts.1, divided-one, divided-one) refl

-- a fraction that passes the test of lowest terms is reduced
pub lowest_is_reduced : (r : Ratio) → IsTrue (is_lowest r) → IsReduced r.num r.den
lowest_is_reduced r lowest =
    let parts = and_parts (int_lt (pos 0) r.den)
    (are_coprime (unsigned_abs r.num) (unsigned_abs r.den)) lowest in
    record {
      positive = less_from _ _ parts.0;
      no_divisor =
          subst (λ g. IsGcd (unsigned_abs r.num) (unsigned_abs r.den) g) (eqb-true _ 1 parts.1)
          (greatest_divisor_is _ _);
    }

-- the divisor of a multiple and a positive number is this number
divisor_of_multiple : (z d : ℤ) → pos 0 <ℤ d
    → greatest_divisor (unsigned_abs (z *ℤ d)) (unsigned_abs d) ≡ unsigned_abs d
divisor_of_multiple z d positive =
    same_from_IsGcd _ _ _ _ (greatest_divisor_is _ _)
    (rw (unsigned_abs-mul z d) (dvd-mul_left _ _, dvd_refl _, λ k left right. right))

divided-neg : (k g : ℕ) → divided (neg_ℤ (pos k)) g ≡ neg_ℤ (pos (k / g))
divided-neg zero g = ap pos (zero-div g) ∙ ap (λ k. neg_ℤ (pos k)) (sym (zero-div g))
divided-neg (suc k) g = refl

divided-times : (z : ℤ) (d : ℕ) → 0 < d → divided (z *ℤ pos d) d ≡ z
divided-times (pos n) d positive = ap pos (mul-div_cancel n positive)
divided-times (negsuc n) d positive =
    divided-neg (suc n * d) d ∙ ap (λ k. neg_ℤ (pos k)) (mul-div_cancel (suc n) positive)

-- a fraction of a multiple is a whole number
pub reduced-multiple : (z d : ℤ) → pos 0 <ℤ d → reduced (z *ℤ d) d ≡ whole z
unfolding reduced
reduced-multiple z (pos d) positive =
    let size : 0 < d = omega (arith, ints) in
    rw (divisor_of_multiple z (pos d) positive, divided-times z d size, div_self size) refl
reduced-multiple z (negsuc d) positive = absurd (omega (arith, ints))

-- the fraction z/1
pub reduced-one : (z : ℤ) → reduced z (pos 1) ≡ whole z
reduced-one z = ap (λ n. reduced n (pos 1)) (sym (mul-one z))
    ∙ reduced-multiple z (pos 1) (omega (arith, ints))
