-- Products of readings, thicknesses and heights fit 128 bits.

use Rattle.std.proofs.Common.{◌≤◌, ℕ, ℤ, pos, ◌*ℤ◌, unsigned_abs, FitsSigned, lit<, lit≤, le_trans}
use Rattle.std.specs.Int.{w128}
use Rattle.std.proofs.Math.Nat.{mul-le-mul}
use Rattle.std.proofs.lemmas.Int.{to_z-of_z, fits_signed_mul, unsigned_abs-mul}
use Rattle.sb_fraction.specs.Plane.{greatest_coordinate, longest_step}
use Rattle.sb_fraction.specs.Bounds.{greatest_cross, greatest_abscissa, greatest_crossing, greatest_offset}
use Rattle.sb_model.specs.Bands.{greatest_total, greatest_position}

pub crossing_step_fits : (a b : ℤ) → unsigned_abs a ≤ greatest_crossing → unsigned_abs b ≤ longest_step
    → FitsSigned w128 (a *ℤ b)
crossing_step_fits a b a_in b_in =
    fits_signed_mul w128 a b greatest_crossing longest_step a_in b_in (lit< tt)

pub crossing_step_size : (a b : ℤ) → unsigned_abs a ≤ greatest_crossing → unsigned_abs b ≤ longest_step
    → unsigned_abs (a *ℤ b) ≤ 1000000000000000000000000
crossing_step_size a b a_in b_in = rw unsigned_abs-mul (le_trans (mul-le-mul a_in b_in) (lit≤ tt))

pub sense_fits : (a b : ℤ) → unsigned_abs a ≤ greatest_abscissa → unsigned_abs b ≤ 1
    → FitsSigned w128 (a *ℤ b)
sense_fits a b a_in b_in = fits_signed_mul w128 a b greatest_abscissa 1 a_in b_in (lit< tt)

pub sense_size : (a b : ℤ) → unsigned_abs a ≤ greatest_abscissa → unsigned_abs b ≤ 1
    → unsigned_abs (a *ℤ b) ≤ greatest_abscissa
sense_size a b a_in b_in = rw unsigned_abs-mul (le_trans (mul-le-mul a_in b_in) (lit≤ tt))

pub end_fits : (a b : ℤ) → unsigned_abs a ≤ 4000000000000 → unsigned_abs b ≤ greatest_cross
    → FitsSigned w128 (a *ℤ b)
end_fits a b a_in b_in = fits_signed_mul w128 a b 4000000000000 greatest_cross a_in b_in (lit< tt)

pub end_size : (a b : ℤ) → unsigned_abs a ≤ 4000000000000 → unsigned_abs b ≤ greatest_cross
    → unsigned_abs (a *ℤ b) ≤ greatest_offset
end_size a b a_in b_in = rw unsigned_abs-mul (le_trans (mul-le-mul a_in b_in) (lit≤ tt))

pub total_fits : (a : ℤ) (n : ℕ) → unsigned_abs a ≤ greatest_position → n ≤ greatest_total
    → FitsSigned w128 (a *ℤ pos n)
total_fits a n a_in n_in = fits_signed_mul w128 a (pos n) greatest_position greatest_total a_in n_in (lit< tt)

pub height_fits : (a b : ℤ) → unsigned_abs a ≤ greatest_coordinate → unsigned_abs b ≤ greatest_cross
    → FitsSigned w128 (a *ℤ b)
height_fits a b a_in b_in = fits_signed_mul w128 a b greatest_coordinate greatest_cross a_in b_in (lit< tt)

-- for readings and bands
pub ruleset bands = (to_z-of_z, crossing_step_fits, crossing_step_size, sense_fits, sense_size, end_fits, end_size, total_fits, height_fits)
