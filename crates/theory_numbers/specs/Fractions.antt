-- Fractions of whole numbers, and the reduced ones among them.

use Rattle.std.specs.Prelude.{ℕ, ℤ, pos, negsuc, suc, neg_ℤ, ◌/◌, Bool, ◌&&◌, int_lt}
use Rattle.std.specs.Prelude.{unsigned_abs}
use Rattle.theory_numbers.specs.Divisors.{greatest_divisor, are_coprime}

-- the number num/den, where den is positive
pub record Ratio : Type 0 where
  pub num : ℤ
  pub den : ℤ

-- a whole number as a fraction
abbrev pub whole : ℤ → Ratio
whole z = record { num = z; den = pos 1 }

-- the denominator is positive, and no number above 1 divides both
abbrev pub is_lowest : Ratio → Bool
is_lowest r = int_lt (pos 0) r.den && are_coprime (unsigned_abs r.num) (unsigned_abs r.den)

-- a whole number divided by a divisor of it: the size is divided, the sign stays
abbrev pub divided : ℤ → ℕ → ℤ
divided (pos n) d = pos (n / d)
divided (negsuc n) d = neg_ℤ (pos (suc n / d))

-- num/den in lowest terms
unfoldable pub reduced : ℤ → ℤ → Ratio
reduced num den =
    let common = greatest_divisor (unsigned_abs num) (unsigned_abs den) in
    record { num = divided num common; den = divided den common }
