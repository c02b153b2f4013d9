-- The sides of patches as lines of one kind, and what holds of every patch.

use Rattle.std.specs.Prelude.{ℕ, pos, Bool, true, false, ◌&&◌, ◌*◌, ◌^◌, int_lt, nat_le}
use Rattle.std.specs.Prelude.{unsigned_abs}
use Rattle.sb_fraction.specs.Bounds.{is_fraction}
use Rattle.theory_numbers.specs.Fractions.{Ratio}
use Rattle.theory_numbers.specs.Arrows.{Arrow}
use Rattle.theory_numbers.specs.Rationals.{rational}
use Rattle.theory_plane.specs.Sides.{LineSide, line, level}
use Rattle.theory_plane.specs.Regions.{Region, is_region}
use Rattle.sb_model.specs.declared.faces.face.FaceKind.{FaceKind}
use Rattle.sb_model.specs.declared.faces.face.FaceKind.TheVariants as kind
use Rattle.sb_model.specs.declared.faces.face.Side.{Side}
use Rattle.sb_model.specs.declared.faces.face.Side.TheVariants.{OnLine, Height}

-- a fraction as the vector of its denominator and its numerator
abbrev pub arrow_of : Ratio → Arrow
arrow_of r = rational r.num r.den

-- the line of a side: a height is a level line
abbrev pub line_of : Side → LineSide
line_of (OnLine l) = line l.dir.x l.dir.y l.off
line_of (Height h) = level h

-- the part of a face between two abscissae and two sides
abbrev pub region_between : Ratio → Ratio → Side → Side → Region
region_between low high lower upper = record {
  low = arrow_of low;
  high = arrow_of high;
  lower = line_of lower;
  upper = line_of upper;
}

-- the greatest size of the offset of a line
abbrev pub greatest_offset : ℕ
greatest_offset = 10 ^ 12

-- a side of a face of this kind: on Bottom and Top a line that runs forward in x, with an offset of
-- at most 10^12 in size; on a side face a height
abbrev pub is_side_of : FaceKind → Side → Bool
is_side_of (kind.Side k) (Height h) = true
is_side_of (kind.Side k) (OnLine l) = false
is_side_of _ (Height h) = false
is_side_of _ (OnLine l) = int_lt (pos 0) l.dir.x && nat_le (unsigned_abs l.off) greatest_offset

-- the greatest size of the numerator of an abscissa
abbrev pub greatest_abscissa_num : ℕ
greatest_abscissa_num = 2 * 10 ^ 24

-- the greatest denominator of an abscissa
abbrev pub greatest_abscissa_den : ℕ
greatest_abscissa_den = 2 * 10 ^ 12

-- a reduced fraction within the bounds of abscissae
abbrev pub is_abscissa_size : Ratio → Bool
is_abscissa_size u =
    is_fraction u && (nat_le (unsigned_abs u.num) greatest_abscissa_num
    && nat_le (unsigned_abs u.den) greatest_abscissa_den)

-- what holds of every patch: low < high, both within the bounds of abscissae, sides of the kind of
-- its face, the lower nowhere above the upper, and the two meeting at one end at most
abbrev pub is_patch : FaceKind → Ratio → Ratio → Side → Side → Bool
is_patch face low high lower upper =
    (is_abscissa_size low && is_abscissa_size high)
    && ((is_side_of face lower && is_side_of face upper)
    && is_region (region_between low high lower upper))
