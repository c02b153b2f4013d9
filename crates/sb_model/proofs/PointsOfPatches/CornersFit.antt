-- The numerators and denominators of corners fit 128 bits.

use Rattle.std.proofs.Common.{◌≤◌, ℤ, ◌*ℤ◌, ◌&&◌, unsigned_abs, FitsSigned, lit<, lit≤, IsTrue, le_trans, w64, nat_le}
use Rattle.std.specs.Int.{w128}
use Rattle.std.proofs.Math.Nat.{mul-le-mul}
use Rattle.std.proofs.lemmas.Bool.{leb-true, and_parts}
use Rattle.std.proofs.lemmas.Int.{to_z-of_z, fits_signed_mul, unsigned_abs-mul}
use Rattle.theory_numbers.specs.Fractions.{Ratio}
use Rattle.theory_numbers.proofs.Fractions.LowestTerms.{reduced-one}
use Rattle.theory_numbers.proofs.Products.{positive_product}
use Rattle.sb_fraction.specs.Plane.{is_coordinate, greatest_coordinate, longest_step}
use Rattle.sb_fraction.specs.Bounds.{is_fraction, greatest_cross, greatest_square, greatest_num, greatest_den}
use Rattle.sb_model.specs.Surfaces.Sides.{is_abscissa_size, greatest_offset, greatest_abscissa_num, greatest_abscissa_den}
use Rattle.sb_model.specs.Surfaces.SideLines.{greatest_part, greatest_sum}
use Rattle.sb_model.proofs.LinesOfSides.{direction_x_in, direction_y_in}
use Rattle.sb_model.proofs.LinesOfSides.{side_runs_right, side_dx_in, side_dy_in, side_off_in}

-- ---- products

pub coordinate_fits : (a b : ℤ) → IsTrue (is_coordinate a) → unsigned_abs b ≤ longest_step
    → FitsSigned w64 (a *ℤ b)
coordinate_fits a b a_in b_in =
    fits_signed_mul w64 a b greatest_coordinate longest_step (leb-true (unsigned_abs a) greatest_coordinate a_in) b_in (lit< tt)

pub coordinate_size : (a b : ℤ) → IsTrue (is_coordinate a) → unsigned_abs b ≤ longest_step
    → unsigned_abs (a *ℤ b) ≤ 500000000000
coordinate_size a b a_in b_in =
    rw unsigned_abs-mul (mul-le-mul (leb-true (unsigned_abs a) greatest_coordinate a_in) b_in)

pub part_fits : (a b : ℤ) → unsigned_abs a ≤ greatest_square → unsigned_abs b ≤ longest_step
    → FitsSigned w128 (a *ℤ b)
part_fits a b a_in b_in = fits_signed_mul w128 a b greatest_square longest_step a_in b_in (lit< tt)

pub part_size : (a b : ℤ) → unsigned_abs a ≤ greatest_square → unsigned_abs b ≤ longest_step
    → unsigned_abs (a *ℤ b) ≤ greatest_part
part_size a b a_in b_in = rw unsigned_abs-mul (le_trans (mul-le-mul a_in b_in) (lit≤ tt))

pub den_fits : (a b : ℤ) → unsigned_abs a ≤ greatest_cross → unsigned_abs b ≤ greatest_cross
    → FitsSigned w128 (a *ℤ b)
den_fits a b a_in b_in = fits_signed_mul w128 a b greatest_cross greatest_cross a_in b_in (lit< tt)

pub den_size : (a b : ℤ) → unsigned_abs a ≤ greatest_cross → unsigned_abs b ≤ greatest_cross
    → unsigned_abs (a *ℤ b) ≤ greatest_square
den_size a b a_in b_in = rw unsigned_abs-mul (le_trans (mul-le-mul a_in b_in) (lit≤ tt))

pub steps_fit : (a b : ℤ) → unsigned_abs a ≤ longest_step → unsigned_abs b ≤ longest_step
    → FitsSigned w64 (a *ℤ b)
steps_fit a b a_in b_in = fits_signed_mul w64 a b longest_step longest_step a_in b_in (lit< tt)

pub steps_size : (a b : ℤ) → unsigned_abs a ≤ longest_step → unsigned_abs b ≤ longest_step
    → unsigned_abs (a *ℤ b) ≤ 1000000000000
steps_size a b a_in b_in = rw unsigned_abs-mul (mul-le-mul a_in b_in)

-- ---- sizes

pub step_is_cross : (z : ℤ) → unsigned_abs z ≤ longest_step → unsigned_abs z ≤ greatest_cross
step_is_cross z size = le_trans size (lit≤ tt)

pub offset_is_cross : (z : ℤ) → unsigned_abs z ≤ greatest_offset → unsigned_abs z ≤ greatest_cross
offset_is_cross z size = le_trans size (lit≤ tt)

pub sum_is_num : (z : ℤ) → unsigned_abs z ≤ greatest_sum → unsigned_abs z ≤ greatest_num
sum_is_num z size = le_trans size (lit≤ tt)

pub square_is_den : (z : ℤ) → unsigned_abs z ≤ greatest_square → unsigned_abs z ≤ greatest_den
square_is_den z size = le_trans size (lit≤ tt)

-- an abscissa's numerator and denominator
pub num_in : (u : Ratio) → IsTrue (is_abscissa_size u) → unsigned_abs u.num ≤ greatest_square
num_in u size =
    let parts = and_parts (is_fraction u) (nat_le (unsigned_abs u.num) greatest_abscissa_num
    && nat_le (unsigned_abs u.den) greatest_abscissa_den) size in
    le_trans (leb-true (unsigned_abs u.num) greatest_abscissa_num (and_parts (nat_le (unsigned_abs u.num) greatest_abscissa_num)
    (nat_le (unsigned_abs u.den) greatest_abscissa_den) parts.1).0) (lit≤ tt)

pub den_in : (u : Ratio) → IsTrue (is_abscissa_size u) → unsigned_abs u.den ≤ greatest_cross
den_in u size =
    let parts = and_parts (is_fraction u) (nat_le (unsigned_abs u.num) greatest_abscissa_num
    && nat_le (unsigned_abs u.den) greatest_abscissa_den) size in
    leb-true (unsigned_abs u.den) greatest_cross (and_parts (nat_le (unsigned_abs u.num) greatest_abscissa_num)
    (nat_le (unsigned_abs u.den) greatest_abscissa_den) parts.1).1

-- for corners
pub ruleset corner_sizes = (
  to_z-of_z,
  reduced-one,
  coordinate_fits,
  coordinate_size,
  part_fits,
  part_size,
  den_fits,
  den_size,
  steps_fit,
  steps_size,
  step_is_cross,
  offset_is_cross,
  sum_is_num,
  square_is_den,
  num_in,
  den_in,
  positive_product,
  direction_x_in,
  direction_y_in,
  side_runs_right,
  side_dx_in,
  side_dy_in,
  side_off_in,
)
