-- What is said of the order of two segments over a direction.

use Rattle.std.specs.Prelude.{◌≡◌, Bool}
use Rattle.std.specs.declared.cmp.Ordering.{Ordering}
use Rattle.theory_numbers.specs.Arrows.{Arrow}
use Rattle.theory_numbers.specs.Fractions.{Ratio}
use Rattle.theory_plane.specs.Sides.{LineSide}
use Rattle.theory_plane.specs.Leads.{order_on}
use Rattle.sb_fraction.specs.declared.point.Segment.{Segment}
use Rattle.sb_fraction.specs.declared.direction.Direction.{Direction}
use Rattle.sb_fraction.specs.Edges.{edge_of}
use Rattle.sb_fraction.specs.Numbers.{number}
use Rattle.sb_fraction.specs.Lines.{arrow_along, line_over, reaches_past, IsBeforeNext}

-- the line of a segment over d
abbrev pub line_of : Direction → Segment → LineSide
line_of d s = line_over (arrow_along d) (edge_of s)

-- by the abscissae of d one end of the segment lies at or before this one, the other after it
abbrev pub is_over : Direction → Segment → Ratio → Bool
is_over d s at = reaches_past (arrow_along d) (number at) (edge_of s)

-- this is the order of the two at every abscissa after this one and before the next end or crossing
-- of the two
abbrev pub HoldsUntilBreak : Direction → Segment → Segment → Ratio → Ordering → Type 0
HoldsUntilBreak d a b at order =
    (u : Arrow) → IsBeforeNext (arrow_along d) (edge_of a) (edge_of b) (number at) u
    → order ≡ order_on (line_of d a) (line_of d b) u
