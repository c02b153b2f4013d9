-- Boxes with sides along the axes.
use Rattle.std.specs.Prelude.{ℤ, Bool, ◌&&◌, int_lt}
use Rattle.sb_fraction.specs.Plane.{is_coordinate}

-- from a lower to a greater coordinate, both in range
abbrev pub is_interval : ℤ → ℤ → Bool
is_interval low high = int_lt low high && is_coordinate low && is_coordinate high

-- three intervals, along x, y and z
abbrev pub is_extent : ℤ → ℤ → ℤ → ℤ → ℤ → ℤ → Bool
is_extent x0 x1 y0 y1 z0 z1 = is_interval x0 x1 && is_interval y0 y1 && is_interval z0 z1
