-- Points and directions as a space's own frame has them.

use Rattle.std.specs.Prelude.{ℕ, ℤ}
use Rattle.sb_fraction.specs.declared.unit.Unit as unit
use Rattle.sb_fraction.specs.declared.unit.Unit.TheVariants.{Metre, Millimetre}
use Rattle.theory_numbers.specs.Fractions.{Ratio}
use Rattle.sb_fixed.specs.Rounding.{scaled, less, rounded}
use Rattle.sb_fraction.specs.Spots.{Vector, vector, inner}
use Rattle.theory_turns.specs.Turns.{Quarter, y_of}
use Rattle.sb_model.specs.declared.patches.corner.Corner.{Corner}
use Rattle.sb_model.specs.declared.frame.Frame.{Frame}
use Rattle.sb_model.specs.Frames.{vector_of}

-- how far a vector goes along the local axes of a turn
abbrev pub turned_back : Quarter → Vector → Vector
turned_back turn v = vector (inner turn.x v) (inner (y_of turn) v) (inner turn.z v)

-- a coordinate in nanometres from where the frame's origin stands, rounded half away from zero once the
-- shift is taken off
abbrev pub nanometres : ℤ → Ratio → ℤ
nanometres shift coordinate = rounded (less shift (scaled 6 coordinate))

-- a corner as seen from the frame's origin, along the building's axes, in nanometres
abbrev pub from_origin : Vector → Corner → Vector
from_origin shift c = vector (nanometres shift.x c.x) (nanometres shift.y c.y) (nanometres shift.z c.z)

-- and in the frame's own axes
abbrev pub in_frame : Frame → Corner → Vector
in_frame frame c = turned_back frame.turn (from_origin (vector_of frame.shift) c)

-- how many places a length has in the file's unit, so that nanometres are whole
abbrev pub places_in : unit.Unit → ℕ
places_in Metre = 9
places_in Millimetre = 6
