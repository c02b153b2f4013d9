-- The products and sums of the numbers of points fit 128 bits.

use Rattle.std.proofs.Common.{◌≤◌, ℤ, ◌*ℤ◌, unsigned_abs, FitsSigned, lit<, lit≤, IsTrue, le_trans}
use Rattle.std.specs.Int.{w128}
use Rattle.std.proofs.Math.Nat.{mul-le-mul}
use Rattle.std.proofs.lemmas.Bool.{and_from, le-leb}
use Rattle.std.proofs.lemmas.Int.{to_z-of_z, fits_signed_mul, unsigned_abs-mul}
use Rattle.theory_numbers.specs.Arrows.{arrow}
use Rattle.sb_fraction.specs.Plane.{greatest_coordinate}
use Rattle.sb_fraction.specs.Bounds.{greatest_cross, greatest_crossing}
use Rattle.sb_points.specs.Sizes.{greatest_seen, greatest_half, is_near}

-- a coordinate of a plan point times a denominator
pub scaled_fits : (a w : ℤ) → unsigned_abs a ≤ greatest_coordinate → unsigned_abs w ≤ greatest_cross
    → FitsSigned w128 (a *ℤ w)
scaled_fits a w a_in w_in =
    fits_signed_mul w128 a w greatest_coordinate greatest_cross a_in w_in (lit< tt)

pub scaled_size : (a w : ℤ) → unsigned_abs a ≤ greatest_coordinate → unsigned_abs w ≤ greatest_cross
    → unsigned_abs (a *ℤ w) ≤ greatest_crossing
scaled_size a w a_in w_in = rw unsigned_abs-mul (le_trans (mul-le-mul a_in w_in) (lit≤ tt))

-- two numbers of ways
pub seen_fits : (a b : ℤ) → unsigned_abs a ≤ greatest_seen → unsigned_abs b ≤ greatest_seen
    → FitsSigned w128 (a *ℤ b)
seen_fits a b a_in b_in =
    fits_signed_mul w128 a b greatest_seen greatest_seen a_in b_in (lit< tt)

pub seen_size : (a b : ℤ) → unsigned_abs a ≤ greatest_seen → unsigned_abs b ≤ greatest_seen
    → unsigned_abs (a *ℤ b) ≤ greatest_half
seen_size a b a_in b_in = rw unsigned_abs-mul (le_trans (mul-le-mul a_in b_in) (lit≤ tt))

-- two short numbers make a near way
pub near_arrow : (x y : ℤ) → unsigned_abs x ≤ greatest_seen → unsigned_abs y ≤ greatest_seen
    → IsTrue (is_near (arrow x y))
near_arrow x y x_in y_in = and_from _ _ (le-leb _ _ x_in) (le-leb _ _ y_in)

-- for sums and products of the numbers of points
pub ruleset sizes = (to_z-of_z, scaled_fits, scaled_size, seen_fits, seen_size, near_arrow)
