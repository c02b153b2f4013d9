-- The products of the exact plane fit 128 bits.

use Rattle.std.proofs.Common.{ℕ, ◌*◌, ◌≤◌, ℤ, ◌*ℤ◌, unsigned_abs, FitsSigned, lit<}
use Rattle.std.specs.Int.{w128}
use Rattle.std.proofs.Math.Nat.{mul-le-mul}
use Rattle.std.proofs.lemmas.Int.{to_z-of_z, fits_signed_mul, unsigned_abs-mul}
use Rattle.sb_fraction.specs.Bounds.{greatest_cross, greatest_square, greatest_offset}
use Rattle.sb_fraction.specs.Bounds.{greatest_product}

-- a product is at most as large as the product of the bounds of its factors
size_of_product : (a b : ℤ) (m n : ℕ) → unsigned_abs a ≤ m → unsigned_abs b ≤ n
    → unsigned_abs (a *ℤ b) ≤ m * n
size_of_product a b m n a_in b_in = rw unsigned_abs-mul (mul-le-mul a_in b_in)

-- the product of two cross products fits
pub crosses_fit : (a b : ℤ) → unsigned_abs a ≤ greatest_cross → unsigned_abs b ≤ greatest_cross
    → FitsSigned w128 (a *ℤ b)
crosses_fit a b a_in b_in =
    fits_signed_mul w128 a b greatest_cross greatest_cross a_in b_in (lit< tt)

-- and is within its bound
pub crosses_size : (a b : ℤ) → unsigned_abs a ≤ greatest_cross → unsigned_abs b ≤ greatest_cross
    → unsigned_abs (a *ℤ b) ≤ greatest_square
crosses_size a b a_in b_in = size_of_product a b greatest_cross greatest_cross a_in b_in

-- the product of a difference of two such products and a denominator fits
pub offset_fits : (a b : ℤ) → unsigned_abs a ≤ greatest_offset → unsigned_abs b ≤ greatest_cross
    → FitsSigned w128 (a *ℤ b)
offset_fits a b a_in b_in =
    fits_signed_mul w128 a b greatest_offset greatest_cross a_in b_in (lit< tt)

-- and is within its bound
pub offset_size : (a b : ℤ) → unsigned_abs a ≤ greatest_offset → unsigned_abs b ≤ greatest_cross
    → unsigned_abs (a *ℤ b) ≤ greatest_product
offset_size a b a_in b_in = size_of_product a b greatest_offset greatest_cross a_in b_in

-- for products
pub ruleset products = (to_z-of_z, crosses_fit, crosses_size, offset_fits, offset_size)
