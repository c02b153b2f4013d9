-- Each fraction is rounded to one whole number, and one division finds it.
use Rattle.std.proofs.Common.{◌≡◌, refl, ℕ, zero, suc, ◌+◌, ◌*◌, ◌/◌, ◌<◌, ◌≤◌, Bool, true, false, List, length, ap, sym, ◌∙◌, ⊎_elim, arith, ℤ, pos, negsuc, ◌<ℤ◌, unsigned_abs, mul-le-mul_right, le_antisymm, div-mul-le_self}
use Rattle.std.proofs.Math.Nat.{lt-div-mul-add, div-eq_of_lt}
use Rattle.std.proofs.lemmas.Bool.{cases_lt}
use Rattle.std.proofs.lemmas.Int.{ints}
use Rattle.theory_numbers.specs.Fractions.{Ratio}
use Rattle.theory_numbers.specs.Tests.{is_negative}
use Rattle.theory_numbers.proofs.Signs.{test_less, test_not_less}
use Rattle.sb_fixed.specs.Decimals.{digits_in, fraction, exponent, lowered, signed, decimal_of}
use Rattle.sb_fixed.specs.Lengths.{TextsAreRounded}
use Rattle.sb_fixed.proofs.LeadingDigits.{tens_positive}
use Rattle.sb_fixed.specs.Rounding.{scaled, HasSignOf, IsRounded, rounded, RoundedIsTheOne}
use Rattle.sb_fixed.proofs.RoundedByTenths.{size_of_signed, not_negative}

-- the size that one division finds
abbrev nearest : ℕ → ℕ → ℕ
nearest n d = (2 * n + d) / (2 * d)

-- it is reached
reached_by : (n d : ℕ) → 2 * nearest n d * d ≤ 2 * n + d
reached_by n d = omega (arith, div-mul-le_self (2 * n + d) (2 * d))

-- and no greater one is
none_greater : (n d k : ℕ) → 0 < d → 2 * k * d ≤ 2 * n + d → k ≤ nearest n d
none_greater n d k some order =
    ⊎_elim
    (λ (beyond : nearest n d < k).
    let next : (nearest n d + 1) * d ≤ k * d = mul-le-mul_right d (omega arith) in
    let end = lt-div-mul-add {a = 2 * n + d} {b = 2 * d} (omega arith) in
    absurd (omega arith))
    (λ within. within) (cases_lt (nearest n d) k)

-- the size of what is rounded is that one
same_size : (n d k : ℕ) → 0 < d → 2 * k * d ≤ 2 * n + d
    → ((j : ℕ) → 2 * j * d ≤ 2 * n + d → j ≤ k) → k ≡ nearest n d
same_size n d k some reached greatest =
    le_antisymm (none_greater n d k some reached) (greatest (nearest n d) (reached_by n d))

-- nothing is rounded to nothing
nearest_of_zero : (d : ℕ) → 0 < d → nearest 0 d ≡ 0
nearest_of_zero d some = div-eq_of_lt {n = 2 * 0 + d} {m = 2 * d} (omega arith)

-- ---- signs

signed_zero : (negative : Bool) → signed negative 0 ≡ pos 0
signed_zero true = refl
signed_zero false = refl

-- a number of a size that has the sign of another, or is 0
sign_decides : (num r : ℤ) → HasSignOf num r → r ≡ signed (is_negative num) (unsigned_abs r)
sign_decides num (pos zero) sign = sym (signed_zero (is_negative num))
sign_decides num (pos (suc n)) sign =
    rw (test_not_less num (pos 0) (omega (arith, ints, sign.above (omega (arith, ints)))))
sign_decides num (negsuc n) sign =
    rw (test_less num (pos 0) (sign.below (omega (arith, ints))))

-- the number found is above 0 only where the fraction is
is_above : (num : ℤ) (d : ℕ) → 0 < d
    → pos 0 <ℤ signed (is_negative num) (nearest (unsigned_abs num) d) → pos 0 <ℤ num
is_above (pos zero) d some above =
    let none = nearest_of_zero d some in
    absurd (omega (arith, ints, above))
is_above (pos (suc n)) d some above = omega (arith, ints)
is_above (negsuc n) d some above = absurd (omega (arith, ints, above))

-- and below 0 only where it is
is_below : (num : ℤ) (d : ℕ)
    → signed (is_negative num) (nearest (unsigned_abs num) d) <ℤ pos 0 → num <ℤ pos 0
is_below (pos n) d below =
    let none = rw (not_negative n) at below in
    absurd (omega (arith, ints, none))
is_below (negsuc n) d below = omega (arith, ints)

-- ---- the law

denominator : (d : ℤ) → pos 0 <ℤ d → 0 < unsigned_abs d
denominator (pos d) some = omega (arith, ints)
denominator (negsuc d) some = absurd (omega (arith, ints))

-- what is rounded is the number found
is_found : (f : Ratio) (r : ℤ) → pos 0 <ℤ f.den → IsRounded f r → r ≡ rounded f
unfolding rounded
is_found f r some is =
    let size = same_size (unsigned_abs f.num) (unsigned_abs f.den) (unsigned_abs r)
    (denominator f.den some) is.reached is.greatest in
    sign_decides f.num r is.sign ∙ ap (signed (is_negative f.num)) size

-- the number found is rounded
found_is : (f : Ratio) → pos 0 <ℤ f.den → IsRounded f (rounded f)
unfolding rounded
found_is f some =
    let n = unsigned_abs f.num in
    let d = unsigned_abs f.den in
    let size : unsigned_abs (rounded f) ≡ nearest n d =
    size_of_signed (is_negative f.num) (nearest n d) in
    record {
      reached = rw size (reached_by n d);
      greatest = λ k order. rw size (none_greater n d k (denominator f.den some) order);
      sign = record {
        above = is_above f.num d (denominator f.den some);
        below = is_below f.num d;
      };
    }

-- each fraction is rounded to this one number
pub rounded_is_the_one : RoundedIsTheOne
rounded_is_the_one f r some = (is_found f r some, λ same. rw same (found_is f some))

-- and the number of each text is, at any places
pub texts_are_rounded : TextsAreRounded
unfolding decimal_of
texts_are_rounded text places =
    found_is (scaled places (decimal_of text)) (omega (arith, ints, tens_positive (tens_below text)))
  where
    tens_below : List ℕ → ℕ
    tens_below text = length (digits_in (fraction text)) + lowered (exponent text)
