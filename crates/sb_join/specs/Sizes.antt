-- How large the numbers of sides are, and what is made of them.

use Rattle.std.specs.Prelude.{ℕ, ◌*◌, ◌^◌, ◌≤◌, unsigned_abs}
use Rattle.theory_plane.specs.Sides.{LineSide}
use Rattle.sb_fraction.specs.Plane.{longest_step}
use Rattle.sb_model.specs.declared.faces.face.Side.{Side}
use Rattle.sb_model.specs.declared.faces.face.Side.TheVariants.{OnLine, Height}
use Rattle.sb_model.specs.Surfaces.Sides.{greatest_offset, greatest_abscissa_num, greatest_abscissa_den}

-- an offset times a part of a direction
abbrev pub greatest_part : ℕ
greatest_part = greatest_offset * longest_step

-- the difference of two of these, and of two products of parts
abbrev pub greatest_shift : ℕ
greatest_shift = 2 * greatest_part

abbrev pub greatest_turn : ℕ
greatest_turn = longest_step * longest_step

abbrev pub greatest_slope : ℕ
greatest_slope = 2 * greatest_turn

-- these times the parts of an abscissa
abbrev pub greatest_first : ℕ
greatest_first = greatest_shift * greatest_abscissa_den

abbrev pub greatest_second : ℕ
greatest_second = greatest_slope * greatest_abscissa_num

-- a height is that of 32 bits
abbrev pub HasHeight : Side → Type 0
HasHeight (OnLine l) = Unit {0}
HasHeight (Height h) = unsigned_abs h ≤ 2 ^ 31

-- the numbers of the side of a patch
pub record HasSizes (l : LineSide) : Type 0 where
  pub dx : unsigned_abs l.dx ≤ longest_step
  pub dy : unsigned_abs l.dy ≤ longest_step
  pub off : unsigned_abs l.off ≤ greatest_offset
