-- The lines of sides, and their sizes.

use Rattle.std.specs.Prelude.{ℕ, ℤ, pos, ◌*◌, ◌^◌, Bool, true, false, ◌&&◌, int_lt, nat_le, unsigned_abs}
use Rattle.sb_fraction.specs.Plane.{longest_step}
use Rattle.theory_plane.specs.Points.{FacePoint, face_point}
use Rattle.sb_fraction.specs.Spots.{Spot, Vector, times_w}
use Rattle.sb_fraction.specs.Directions.{axis_z}
use Rattle.sb_model.specs.declared.faces.face.FaceKind.{FaceKind}
use Rattle.sb_model.specs.declared.faces.face.FaceKind.TheVariants as kind
use Rattle.sb_model.specs.declared.faces.face.Side.{Side}
use Rattle.sb_model.specs.declared.faces.face.Side.TheVariants.{OnLine, Height}
use Rattle.sb_model.specs.Surfaces.Sides.{greatest_offset}

-- a side of a face of some kind
abbrev pub is_side : Side → Bool
is_side (Height h) = true
is_side (OnLine l) = int_lt (pos 0) l.dir.x && nat_le (unsigned_abs l.off) greatest_offset

-- the line runs forward in u, its direction is short and its offset is at most 10^12 in size
abbrev pub is_side_line : ℤ → ℤ → ℤ → Bool
is_side_line dx dy off =
    (int_lt (pos 0) dx && nat_le (unsigned_abs dx) longest_step)
    && (nat_le (unsigned_abs dy) longest_step && nat_le (unsigned_abs off) greatest_offset)

-- the greatest size of a part of a corner's numerator
abbrev pub greatest_part : ℕ
greatest_part = 4 * 10 ^ 30

-- and of the sum of two
abbrev pub greatest_sum : ℕ
greatest_sum = 8 * 10 ^ 30

-- the greatest size of a coordinate of a point times a number of a direction
abbrev pub greatest_reading : ℕ
greatest_reading = 10 ^ 24

-- a side face
abbrev pub is_upright : FaceKind → Bool
is_upright (kind.Side k) = true
is_upright _ = false

-- the point of a side face along a direction
abbrev pub seen_along : Vector → Spot → FacePoint
seen_along d p = face_point (times_w p d) (times_w p axis_z) p.w
