-- What holds of plan points, segments and directions, as tests that compute.

use Rattle.std.specs.Prelude.{ℕ, ℤ, pos, Bool, not, ◌&&◌, ◌||◌, int_lt, nat_le, unsigned_abs}
use Rattle.std.specs.Ordering.{int_eq}
use Rattle.theory_numbers.specs.Divisors.{are_coprime}
use Rattle.theory_numbers.specs.Arrows.{Arrow}
use Rattle.sb_fraction.specs.declared.point.Point.{Point}

-- the greatest size of a world coordinate, in millimetres
abbrev pub greatest_coordinate : ℕ
greatest_coordinate = 500000

-- a coordinate or a height within 500,000 mm
abbrev pub is_coordinate : ℤ → Bool
is_coordinate z = nat_le (unsigned_abs z) greatest_coordinate

-- both coordinates are within 500,000 mm
abbrev pub is_plan_point : Point → Bool
is_plan_point p = is_coordinate p.x && is_coordinate p.y

-- the plan points (ax, ay) and (bx, by) differ
abbrev pub are_two_points : ℤ → ℤ → ℤ → ℤ → Bool
are_two_points ax ay bx by = not (int_eq ax bx && int_eq ay by)

-- the greatest size of a number of a direction
abbrev pub longest_step : ℕ
longest_step = 1000000

-- both numbers of a vector are at most 10^6 in size
abbrev pub is_short : Arrow → Bool
is_short a = nat_le (unsigned_abs a.x) longest_step && nat_le (unsigned_abs a.y) longest_step

-- the first number is positive, or the direction is (0, 1)
abbrev pub is_forward : ℤ → ℤ → Bool
is_forward x y = int_lt (pos 0) x || (int_eq x (pos 0) && int_eq y (pos 1))

-- (x, y) is a direction: without common divisor, forward, each number at most 10^6 in size
abbrev pub is_direction : ℤ → ℤ → Bool
is_direction x y =
    are_coprime (unsigned_abs x) (unsigned_abs y)
    && is_forward x y
    && nat_le (unsigned_abs x) longest_step
    && nat_le (unsigned_abs y) longest_step
