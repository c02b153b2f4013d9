-- The products of this crate fit 128 bits.

use Rattle.std.proofs.Common.{◌≤◌, ℤ, ◌*ℤ◌, unsigned_abs, FitsSigned, lit<, lit≤, IsTrue, le_trans}
use Rattle.std.proofs.lemmas.Bool.{and_from, le-leb}
use Rattle.theory_numbers.specs.Arrows.{arrow}
use Rattle.sb_frame.specs.Through.{greatest_seen, greatest_half, is_near}
use Rattle.std.specs.Int.{w128}
use Rattle.std.proofs.lemmas.Int.{to_z-of_z, fits_signed_mul, unsigned_abs-mul}
use Rattle.sb_fraction.specs.Plane.{greatest_coordinate, longest_step}
use Rattle.sb_frame.specs.Abscissae.{greatest_part}
use Rattle.std.proofs.Math.Nat.{mul-le-mul}
use Rattle.sb_fraction.specs.Bounds.{greatest_cross, greatest_crossing}

-- a coordinate times the denominator of a crossing
pub coordinate_fits : (a w : ℤ) → unsigned_abs a ≤ greatest_coordinate
    → unsigned_abs w ≤ greatest_cross → FitsSigned w128 (a *ℤ w)
coordinate_fits a w a_in w_in =
    fits_signed_mul w128 a w greatest_coordinate greatest_cross a_in w_in (lit< tt)

-- a numerator of a crossing times the denominator of another
pub numerator_fits : (a w : ℤ) → unsigned_abs a ≤ greatest_crossing
    → unsigned_abs w ≤ greatest_cross → FitsSigned w128 (a *ℤ w)
numerator_fits a w a_in w_in =
    fits_signed_mul w128 a w greatest_crossing greatest_cross a_in w_in (lit< tt)

-- and times a number of a direction
pub step_fits : (a step : ℤ) → unsigned_abs a ≤ greatest_crossing
    → unsigned_abs step ≤ longest_step → FitsSigned w128 (a *ℤ step)
step_fits a step a_in step_in =
    fits_signed_mul w128 a step greatest_crossing longest_step a_in step_in (lit< tt)

pub step_size : (a step : ℤ) → unsigned_abs a ≤ greatest_crossing
    → unsigned_abs step ≤ longest_step → unsigned_abs (a *ℤ step) ≤ greatest_part
step_size a step a_in step_in = rw unsigned_abs-mul (mul-le-mul a_in step_in)

-- for products
pub ruleset products = (to_z-of_z, coordinate_fits, numerator_fits, step_fits, step_size)

-- ---- ways from a crossing

pub scaled_size : (a w : ℤ) → unsigned_abs a ≤ greatest_coordinate → unsigned_abs w ≤ greatest_cross
    → unsigned_abs (a *ℤ w) ≤ greatest_crossing
scaled_size a w a_in w_in = rw unsigned_abs-mul (le_trans (mul-le-mul a_in w_in) (lit≤ tt))

pub seen_fits : (a b : ℤ) → unsigned_abs a ≤ greatest_seen → unsigned_abs b ≤ greatest_seen
    → FitsSigned w128 (a *ℤ b)
seen_fits a b a_in b_in =
    fits_signed_mul w128 a b greatest_seen greatest_seen a_in b_in (lit< tt)

pub seen_size : (a b : ℤ) → unsigned_abs a ≤ greatest_seen → unsigned_abs b ≤ greatest_seen
    → unsigned_abs (a *ℤ b) ≤ greatest_half
seen_size a b a_in b_in = rw unsigned_abs-mul (le_trans (mul-le-mul a_in b_in) (lit≤ tt))

-- two short numbers make a near way
pub near_arrow : (x y : ℤ) → unsigned_abs x ≤ greatest_seen → unsigned_abs y ≤ greatest_seen
    → IsTrue (is_near (arrow x y))
near_arrow x y x_in y_in = and_from _ _ (le-leb _ _ x_in) (le-leb _ _ y_in)

-- for sums and products of ways
pub ruleset seen_sizes = (to_z-of_z, coordinate_fits, scaled_size, seen_fits, seen_size, near_arrow)
