-- The products that rounding takes fit 128 bits.
use Rattle.std.proofs.Common.{ℕ, ◌*◌, ◌≤◌, ◌^◌, ℤ, pos, ◌*ℤ◌, unsigned_abs, FitsSigned, lit<, lit≤, mul-le-mul}
use Rattle.std.specs.Int.{w128}
use Rattle.std.proofs.lemmas.Int.{to_z-of_z, fits_signed_mul, unsigned_abs-mul}
use Rattle.sb_fraction.specs.Bounds.{greatest_num, greatest_den}

-- a product is at most as large as the product of the bounds of its factors
size_of_product : (a b : ℤ) (m n : ℕ) → unsigned_abs a ≤ m → unsigned_abs b ≤ n
    → unsigned_abs (a *ℤ b) ≤ m * n
size_of_product a b m n a_in b_in = rw unsigned_abs-mul (mul-le-mul a_in b_in)

-- a shift and a denominator
pub shift_fits : (a b : ℤ) → unsigned_abs a ≤ 10 ^ 12 → unsigned_abs b ≤ greatest_den
    → FitsSigned w128 (a *ℤ b)
shift_fits a b a_in b_in = fits_signed_mul w128 a b (10 ^ 12) greatest_den a_in b_in (lit< tt)

-- at most 10^37 in size
pub shift_size : (a b : ℤ) → unsigned_abs a ≤ 10 ^ 12 → unsigned_abs b ≤ greatest_den
    → unsigned_abs (a *ℤ b) ≤ 10 ^ 37
shift_size a b a_in b_in = size_of_product a b (10 ^ 12) greatest_den a_in b_in

-- a million numerators
pub millions_fit : (a : ℤ) → unsigned_abs a ≤ greatest_num → FitsSigned w128 (a *ℤ pos 1000000)
millions_fit a a_in =
    fits_signed_mul w128 a (pos 1000000) greatest_num 1000000 a_in (lit≤ tt) (lit< tt)

-- at most 10^38 in size
pub millions_size : (a : ℤ) → unsigned_abs a ≤ greatest_num
    → unsigned_abs (a *ℤ pos 1000000) ≤ 10 ^ 38
millions_size a a_in = size_of_product a (pos 1000000) greatest_num 1000000 a_in (lit≤ tt)

-- for shifts and millions
pub ruleset shifts = (to_z-of_z, shift_fits, shift_size, millions_fit, millions_size)
