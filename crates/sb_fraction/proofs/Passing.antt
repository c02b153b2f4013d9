-- What bodies with signed numbers pass on: each number is itself, and a product of short numbers
-- is short.

use Rattle.std.proofs.Common.{◌≤◌, ℤ, ◌*ℤ◌, unsigned_abs, FitsSigned}
use Rattle.std.proofs.Common.{w64, lit<, IsTrue}
use Rattle.std.proofs.Math.Nat.{mul-le-mul}
use Rattle.std.proofs.lemmas.Bool.{and_from, le-leb}
use Rattle.theory_numbers.specs.Arrows.{arrow}
use Rattle.sb_fraction.specs.Plane.{is_short}
use Rattle.std.proofs.lemmas.Int.{to_z-of_z, fits_signed_mul, unsigned_abs-mul}

-- a product of two numbers of at most 10^6 in size fits
pub product_fits : (a b : ℤ) → unsigned_abs a ≤ 1000000 → unsigned_abs b ≤ 1000000
    → FitsSigned w64 (a *ℤ b)
product_fits a b a_in b_in = fits_signed_mul w64 a b 1000000 1000000 a_in b_in (lit< tt)

-- and is at most 10^12 in size
pub product_size : (a b : ℤ) → unsigned_abs a ≤ 1000000 → unsigned_abs b ≤ 1000000
    → unsigned_abs (a *ℤ b) ≤ 1000000000000
product_size a b a_in b_in = rw unsigned_abs-mul (mul-le-mul a_in b_in)

-- two numbers of at most 10^6 in size make a short vector
pub short_arrow : (x y : ℤ) → unsigned_abs x ≤ 1000000 → unsigned_abs y ≤ 1000000
    → IsTrue (is_short (arrow x y))
short_arrow x y x_in y_in = and_from _ _ (le-leb _ _ x_in) (le-leb _ _ y_in)

-- for sums and products of signed numbers
pub ruleset passing = (to_z-of_z, product_fits, product_size, short_arrow)
