-- The products of the numbers of sides and abscissae fit.
use Rattle.std.proofs.Common.{ℕ, ◌*◌, ◌≤◌, ℤ, ◌*ℤ◌, unsigned_abs, FitsSigned, lit<}
use Rattle.std.specs.Int.{w128}
use Rattle.std.proofs.Math.Nat.{mul-le-mul}
use Rattle.std.proofs.lemmas.Int.{to_z-of_z, fits_signed_mul, unsigned_abs-mul}
use Rattle.sb_fraction.specs.Plane.{longest_step}
use Rattle.sb_model.specs.Surfaces.Sides.{greatest_offset, greatest_abscissa_num, greatest_abscissa_den}
use Rattle.sb_join.specs.Sizes.{greatest_part, greatest_shift, greatest_turn, greatest_slope}
use Rattle.sb_join.specs.Sizes.{greatest_first, greatest_second}

size_of_product : (a b : ℤ) (m n : ℕ) → unsigned_abs a ≤ m → unsigned_abs b ≤ n
    → unsigned_abs (a *ℤ b) ≤ m * n
size_of_product a b m n a_in b_in = rw unsigned_abs-mul (mul-le-mul a_in b_in)

pub part_fits : (a b : ℤ) → unsigned_abs a ≤ greatest_offset → unsigned_abs b ≤ longest_step
    → FitsSigned w128 (a *ℤ b)
part_fits a b a_in b_in = fits_signed_mul w128 a b greatest_offset longest_step a_in b_in (lit< tt)

pub part_size : (a b : ℤ) → unsigned_abs a ≤ greatest_offset → unsigned_abs b ≤ longest_step
    → unsigned_abs (a *ℤ b) ≤ greatest_part
part_size a b a_in b_in = size_of_product a b greatest_offset longest_step a_in b_in

pub turn_fits : (a b : ℤ) → unsigned_abs a ≤ longest_step → unsigned_abs b ≤ longest_step
    → FitsSigned w128 (a *ℤ b)
turn_fits a b a_in b_in = fits_signed_mul w128 a b longest_step longest_step a_in b_in (lit< tt)

pub turn_size : (a b : ℤ) → unsigned_abs a ≤ longest_step → unsigned_abs b ≤ longest_step
    → unsigned_abs (a *ℤ b) ≤ greatest_turn
turn_size a b a_in b_in = size_of_product a b longest_step longest_step a_in b_in

pub first_fits : (a b : ℤ) → unsigned_abs a ≤ greatest_shift → unsigned_abs b ≤ greatest_abscissa_den
    → FitsSigned w128 (a *ℤ b)
first_fits a b a_in b_in =
    fits_signed_mul w128 a b greatest_shift greatest_abscissa_den a_in b_in (lit< tt)

pub first_size : (a b : ℤ) → unsigned_abs a ≤ greatest_shift → unsigned_abs b ≤ greatest_abscissa_den
    → unsigned_abs (a *ℤ b) ≤ greatest_first
first_size a b a_in b_in = size_of_product a b greatest_shift greatest_abscissa_den a_in b_in

pub second_fits : (a b : ℤ) → unsigned_abs a ≤ greatest_slope → unsigned_abs b ≤ greatest_abscissa_num
    → FitsSigned w128 (a *ℤ b)
second_fits a b a_in b_in =
    fits_signed_mul w128 a b greatest_slope greatest_abscissa_num a_in b_in (lit< tt)

pub second_size : (a b : ℤ) → unsigned_abs a ≤ greatest_slope → unsigned_abs b ≤ greatest_abscissa_num
    → unsigned_abs (a *ℤ b) ≤ greatest_second
second_size a b a_in b_in = size_of_product a b greatest_slope greatest_abscissa_num a_in b_in

-- for products
pub ruleset products = (
  to_z-of_z,
  part_fits,
  part_size,
  turn_fits,
  turn_size,
  first_fits,
  first_size,
  second_fits,
  second_size,
)
