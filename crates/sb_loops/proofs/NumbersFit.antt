-- What the bend of three points rests on: each number is itself, and a product of two ways fits.

use Rattle.std.proofs.Common.{◌≤◌, ℤ, ◌*ℤ◌, unsigned_abs, FitsSigned, lit<}
use Rattle.std.specs.Int.{w128}
use Rattle.std.proofs.Math.Nat.{mul-le-mul}
use Rattle.std.proofs.lemmas.Int.{to_z-of_z, fits_signed_mul, unsigned_abs-mul}

-- a product of two ways fits
pub ways_fit : (a b : ℤ) → unsigned_abs a ≤ 4294967296 → unsigned_abs b ≤ 4294967296
    → FitsSigned w128 (a *ℤ b)
ways_fit a b a_in b_in = fits_signed_mul w128 a b 4294967296 4294967296 a_in b_in (lit< tt)

-- and is at most so large
pub ways_size : (a b : ℤ) → unsigned_abs a ≤ 4294967296 → unsigned_abs b ≤ 4294967296
    → unsigned_abs (a *ℤ b) ≤ 18446744073709551616
ways_size a b a_in b_in = rw unsigned_abs-mul (mul-le-mul a_in b_in)

-- for sums and products of signed numbers
pub ruleset numbers = (to_z-of_z, ways_fit, ways_size)
