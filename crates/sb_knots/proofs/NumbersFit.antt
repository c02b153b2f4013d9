-- What bodies with signed numbers pass on: each number is itself, and a product is not too large.

use Rattle.std.proofs.Common.{◌≤◌, ◌≡◌, ℤ, ◌*ℤ◌, unsigned_abs, FitsSigned, w64, lit<, IsTrue, pos}
use Rattle.std.specs.Int.{w128}
use Rattle.std.proofs.Common.{arith}
use Rattle.std.proofs.Math.Nat.{mul-le-mul}
use Rattle.std.proofs.lemmas.Bool.{and_from, le-leb}
use Rattle.std.proofs.lemmas.Int.{to_z-of_z, fits_signed_mul, unsigned_abs-mul}
use Rattle.theory_numbers.specs.Arrows.{arrow}
use Rattle.theory_numbers.proofs.Shapes.{var, num, times, equal}
use Rattle.sb_fraction.specs.Plane.{is_short}

-- a product of two numbers of ways fits
pub way_product_fits : (a b : ℤ) → unsigned_abs a ≤ 1000000 → unsigned_abs b ≤ 1000000
    → FitsSigned w64 (a *ℤ b)
way_product_fits a b a_in b_in = fits_signed_mul w64 a b 1000000 1000000 a_in b_in (lit< tt)

-- and is at most so large
pub way_product_size : (a b : ℤ) → unsigned_abs a ≤ 1000000 → unsigned_abs b ≤ 1000000
    → unsigned_abs (a *ℤ b) ≤ 1000000000000
way_product_size a b a_in b_in = rw unsigned_abs-mul (mul-le-mul a_in b_in)

-- a product of two turns fits in 128 bits
pub turns_fit : (a b : ℤ) → unsigned_abs a ≤ 2000000000000 → unsigned_abs b ≤ 2000000000000
    → FitsSigned w128 (a *ℤ b)
turns_fit a b a_in b_in =
    fits_signed_mul w128 a b 2000000000000 2000000000000 a_in b_in (lit< tt)

-- two numbers that are small enough make a way
pub way_from : (x y : ℤ) → unsigned_abs x ≤ 1000000 → unsigned_abs y ≤ 1000000
    → IsTrue (is_short (arrow x y))
way_from x y x_in y_in = and_from _ _ (le-leb _ _ x_in) (le-leb _ _ y_in)

-- once a number is the number
pub times_one : (a : ℤ) → a *ℤ pos 1 ≡ a
times_one a = equal (times (var a) (num 1)) (var a) (omega arith)

-- for sums and products of signed numbers
pub ruleset numbers =
    (to_z-of_z, turns_fit, way_product_fits, way_product_size, way_from, times_one)
