-- The products that the calls make fit into their numbers.

use Rattle.std.proofs.Common.{ℕ, ℤ, pos, ◌≤◌, ◌*ℤ◌, ◌*◌, ◌^◌, unsigned_abs, FitsSigned, lit<}
use Rattle.std.specs.Int.{w128}
use Rattle.std.proofs.lemmas.Int.{to_z-of_z, fits_signed_mul, unsigned_abs-mul}
use Rattle.std.proofs.lemmas.Nat.{mul-le}
use Rattle.sb_fraction.specs.Bounds.{greatest_cross}
use Rattle.sb_model.specs.Bands.{greatest_total}

-- of two differences of coordinates
pub product_fits : (a b : ℤ) → unsigned_abs a ≤ 2 ^ 33 → unsigned_abs b ≤ 2 ^ 33
    → FitsSigned w128 (a *ℤ b)
product_fits a b a_in b_in = fits_signed_mul w128 a b (2 ^ 33) (2 ^ 33) a_in b_in (lit< tt)

pub product_size : (a b : ℤ) → unsigned_abs a ≤ 2 ^ 33 → unsigned_abs b ≤ 2 ^ 33
    → unsigned_abs (a *ℤ b) ≤ 2 ^ 33 * 2 ^ 33
product_size a b a_in b_in =
    rw unsigned_abs-mul (mul-le (unsigned_abs a) (unsigned_abs b) (2 ^ 33) (2 ^ 33) a_in b_in)

-- of a position and a sum of thicknesses
pub total_fits : (a : ℤ) (n : ℕ) → unsigned_abs a ≤ greatest_cross → n ≤ greatest_total
    → FitsSigned w128 (a *ℤ pos n)
total_fits a n a_in n_in = fits_signed_mul w128 a (pos n) greatest_cross greatest_total a_in n_in (lit< tt)

pub total_size : (a : ℤ) (n : ℕ) → unsigned_abs a ≤ greatest_cross → n ≤ greatest_total
    → unsigned_abs (a *ℤ pos n) ≤ greatest_cross * greatest_total
total_size a n a_in n_in =
    rw unsigned_abs-mul (mul-le (unsigned_abs a) n greatest_cross greatest_total a_in n_in)

-- for the calls that multiply
pub ruleset products = (to_z-of_z, product_fits, product_size, total_fits, total_size)
