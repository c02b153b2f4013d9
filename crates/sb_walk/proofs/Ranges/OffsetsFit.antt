-- The offsets of lines fit 64 bits.

use Rattle.std.proofs.Common.{◌≤◌, ℤ, ◌*ℤ◌, unsigned_abs, FitsSigned, lit<, w64}
use Rattle.std.proofs.Math.Nat.{mul-le-mul}
use Rattle.std.proofs.lemmas.Int.{to_z-of_z, fits_signed_mul, unsigned_abs-mul}
use Rattle.sb_fraction.specs.Plane.{greatest_coordinate, longest_step}

-- a coordinate times a number of a direction
pub part_fits : (a step : ℤ) → unsigned_abs a ≤ greatest_coordinate
    → unsigned_abs step ≤ longest_step → FitsSigned w64 (a *ℤ step)
part_fits a step a_in step_in =
    fits_signed_mul w64 a step greatest_coordinate longest_step a_in step_in (lit< tt)

pub part_size : (a step : ℤ) → unsigned_abs a ≤ greatest_coordinate
    → unsigned_abs step ≤ longest_step → unsigned_abs (a *ℤ step) ≤ 500000000000
part_size a step a_in step_in = rw unsigned_abs-mul (mul-le-mul a_in step_in)

-- for offsets
pub ruleset offsets = (to_z-of_z, part_fits, part_size)
