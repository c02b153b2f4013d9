-- Readings of corners fit 64 bits.

use Rattle.std.proofs.Common.{◌≤◌, ℤ, ◌*ℤ◌, unsigned_abs, FitsSigned, lit<, IsTrue, w64, ◌&&◌, int_lt}
use Rattle.std.proofs.Math.Nat.{mul-le-mul}
use Rattle.std.proofs.lemmas.Bool.{leb-true, and_parts}
use Rattle.std.proofs.lemmas.Int.{to_z-of_z, fits_signed_mul, unsigned_abs-mul}
use Rattle.sb_fraction.specs.Plane.{is_coordinate, greatest_coordinate}
use Rattle.theory_plans.specs.Plans.{is_plan}
use Rattle.sb_model.specs.Solids.{Upright, is_upright, is_height}

pub coordinate_times_fits : (a b : ℤ) → IsTrue (is_coordinate a) → unsigned_abs b ≤ 1000000
    → FitsSigned w64 (a *ℤ b)
coordinate_times_fits a b a_in b_in =
    fits_signed_mul w64 a b 500000 1000000 (leb-true (unsigned_abs a) greatest_coordinate a_in) b_in (lit< tt)

pub coordinate_times_size : (a b : ℤ) → IsTrue (is_coordinate a) → unsigned_abs b ≤ 1000000
    → unsigned_abs (a *ℤ b) ≤ 500000000000
coordinate_times_size a b a_in b_in =
    rw unsigned_abs-mul (mul-le-mul (leb-true (unsigned_abs a) greatest_coordinate a_in) b_in)

heights : (s : Upright) → IsTrue (is_upright s)
    → (IsTrue (is_height s.z0)) × (IsTrue (is_height s.z1))
heights s upright =
    let parts = and_parts (is_plan s.loops && int_lt s.z0 s.z1 && is_height s.z0) (is_height s.z1) upright in
    ((and_parts (is_plan s.loops && int_lt s.z0 s.z1) (is_height s.z0) parts.0).1, parts.1)

-- the heights of a prism are in range
pub low_in_range : (s : Upright) → IsTrue (is_upright s) → IsTrue (is_height s.z0)
low_in_range s upright = (heights s upright).0

pub high_in_range : (s : Upright) → IsTrue (is_upright s) → IsTrue (is_height s.z1)
high_in_range s upright = (heights s upright).1

-- for readings
pub ruleset readings = (to_z-of_z, coordinate_times_fits, coordinate_times_size, low_in_range, high_in_range)
