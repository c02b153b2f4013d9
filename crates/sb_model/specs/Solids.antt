-- Vertical prisms, and the points inside them.

use Rattle.std.specs.Prelude.{ℤ, Bool, ◌*ℤ◌, ◌&&◌, List, int_lt}
use Rattle.sb_fraction.specs.declared.point.Point.{Point}
use Rattle.sb_fraction.specs.Spots.{Spot}
use Rattle.theory_plans.specs.Plans.{is_plan}
use Rattle.sb_fraction.specs.Plane.{is_coordinate}
use Rattle.theory_plans.specs.Inside.{is_in_plan}

-- a plan between two heights
pub record Upright : Type 0 where
  pub loops : List (List Point)
  pub z0 : ℤ
  pub z1 : ℤ

abbrev pub upright : List (List Point) → ℤ → ℤ → Upright
upright loops z0 z1 = record { loops = loops; z0 = z0; z1 = z1 }

-- a height in range
abbrev pub is_height : ℤ → Bool
is_height z = is_coordinate z

-- what holds of every prism: its loops are a plan, and the lower height is below the upper one
abbrev pub is_upright : Upright → Bool
is_upright s = is_plan s.loops && int_lt s.z0 s.z1 && is_height s.z0 && is_height s.z1

-- p lies strictly between two heights
abbrev pub is_between_heights : ℤ → ℤ → Spot → Bool
is_between_heights z0 z1 p = int_lt (z0 *ℤ p.w) p.z && int_lt p.z (z1 *ℤ p.w)

-- p lies inside the prism: inside the loops, and strictly between the heights
abbrev pub is_in_solid : Upright → Spot → Bool
is_in_solid s p = is_in_plan s.loops p && is_between_heights s.z0 s.z1 p
