-- The sums of products of the exact plane fit 128 bits.

use Rattle.std.proofs.Common.{◌≤◌, ℤ, unsigned_abs, le_trans}
use Rattle.std.proofs.Common.{lit≤}
use Rattle.std.proofs.lemmas.Int.{to_z-of_z, ints}
use Rattle.sb_fraction.specs.Plane.{greatest_coordinate, longest_step}
use Rattle.sb_fraction.specs.Bounds.{greatest_cross}

-- a coordinate is no larger than a cross product
pub coordinate_is_small : (z : ℤ) → unsigned_abs z ≤ greatest_coordinate
    → unsigned_abs z ≤ greatest_cross
coordinate_is_small z size = le_trans size (lit≤ tt)

-- nor is a number of a short vector
pub step_is_small : (z : ℤ) → unsigned_abs z ≤ longest_step → unsigned_abs z ≤ greatest_cross
step_is_small z size = le_trans size (lit≤ tt)

-- for coordinates
pub ruleset coordinates = (to_z-of_z, coordinate_is_small, step_is_small)
