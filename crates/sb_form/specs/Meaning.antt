-- What an input of the first form means: a box, or the first of three defects.
use Rattle.std.specs.Prelude.{◌≡◌, ◌+ℤ◌, ◌-ℤ◌, ◌*◌, ◌*ℤ◌, ◌/◌, ◌%◌, ◌==◌, ℕ, ℤ, pos, Bool, ◌&&◌}
use Rattle.std.specs.Prelude.{[], ◌∷◌, codes, int_lt, nat_le, unsigned_abs, Option, Some, None}
use Rattle.std.specs.Prelude.{if◌then◌else◌}
use Rattle.sb_fraction.specs.declared.unit.Unit.TheVariants.{Millimetre}
use Rattle.sb_model.specs.Building.{Building, building}
use Rattle.sb_fraction.specs.Plane.{greatest_coordinate}
use Rattle.sb_fraction.specs.Spots.{vector}
use Rattle.theory_turns.specs.Turns.{Quarter}
use Rattle.sb_model.specs.declared.frame.Frame.{Frame}
use Rattle.sb_model.specs.declared.products.Space.{Space}
use Rattle.sb_box.specs.BoxModel.{prism_of, prism_is_solid}
use Rattle.sb_box.specs.declared.extent.Extent.{Extent}
use Rattle.sb_form.specs.declared.matcher.FirstForm.{FirstForm}
use Rattle.sb_form.specs.declared.meaning.Defect.{Defect}
use Rattle.sb_form.specs.declared.meaning.Defect.TheVariants.{Shape, Range, OffGrid}

-- the three sizes are above 0
abbrev pub has_shape : FirstForm → Bool
has_shape f = int_lt (pos 0) f.size_x && (int_lt (pos 0) f.size_y && int_lt (pos 0) f.height)

-- a coordinate doubled
abbrev pub twice : ℤ → ℤ
twice z = z +ℤ z

-- a coordinate, given as twice itself, is in range
abbrev pub is_near_doubled : ℤ → Bool
is_near_doubled twice = nat_le (unsigned_abs twice) (2 * greatest_coordinate)

-- from x - X/2 to x + X/2, each coordinate is in range; X may be odd
abbrev pub is_near_about : ℤ → ℤ → Bool
is_near_about middle size =
    is_near_doubled (twice middle -ℤ size) && is_near_doubled (twice middle +ℤ size)

-- the same from z to z + H
abbrev pub is_near_up : ℤ → ℤ → Bool
is_near_up z height = is_near_doubled (twice z) && is_near_doubled (twice (z +ℤ height))

-- each coordinate of the box is in range
abbrev pub is_near : FirstForm → Bool
is_near f = is_near_about f.x f.size_x && (is_near_about f.y f.size_y && is_near_up f.z f.height)

-- an even number
abbrev pub is_even : ℤ → Bool
is_even z = unsigned_abs z % 2 == 0

-- the corners of the box have whole coordinates
abbrev pub is_on_grid : FirstForm → Bool
is_on_grid f = is_even f.size_x && is_even f.size_y

-- the first defect: a size that is not above 0, a coordinate out of range, a corner off the grid
abbrev pub defect_of : FirstForm → Option Defect
defect_of f =
    if has_shape f
    then (if is_near f then (if is_on_grid f then None else Some OffGrid) else Some Range)
    else Some Shape

-- half of a size that is above 0 and even
abbrev pub half : ℤ → ℤ
half size = pos (unsigned_abs size / 2)

-- the box: from x - X/2 to x + X/2, from y - Y/2 to y + Y/2, and from z to z + H
pub record IsExtentOf (f : FirstForm) (e : Extent) : Type 0 where
  pub x0 : e.x0 ≡ f.x -ℤ half f.size_x
  pub x1 : e.x1 ≡ f.x +ℤ half f.size_x
  pub y0 : e.y0 ≡ f.y -ℤ half f.size_y
  pub y1 : e.y1 ≡ f.y +ℤ half f.size_y
  pub z0 : e.z0 ≡ f.z
  pub z1 : e.z1 ≡ f.z +ℤ f.height

-- no turn
abbrev pub unturned : Quarter
unturned = record { x = vector (pos 1) (pos 0) (pos 0); z = vector (pos 0) (pos 0) (pos 1) }

-- a length in nanometres
abbrev pub nanometres : ℤ → ℤ
nanometres millimetres = millimetres *ℤ pos 1000000

-- the number of the space
abbrev pub space_number : ℕ
space_number = 20

-- the frame of the space: not turned, with its origin at the form's place
abbrev pub frame_of : FirstForm → Frame
frame_of f =
    record { turn = unturned; shift = nanometres f.x ∷ nanometres f.y ∷ nanometres f.z ∷ [] }

-- the one space: the box, in the frame of the form
abbrev pub space_of : FirstForm → Extent → Space
space_of f e = record {
  number = space_number;
  global_id = codes "0000000000000000000020";
  prism = prism_of e;
  frame = frame_of f;
  is_solid = prism_is_solid e;
}

-- the reach of walks, in millimetres
abbrev pub reach_of_walks : ℕ
reach_of_walks = 1000

-- the model of a form with this box: the one space in millimetres, and the ground at height 0
abbrev pub model_of : FirstForm → Extent → Building
model_of f e = building Millimetre (pos 0) reach_of_walks (space_of f e ∷ []) [] [] []
