-- The lines of edges over a direction d. In the frame of d a plan point p has two coordinates: its
-- abscissa u = p·d, and v = p·(-dy, dx).

use Rattle.std.specs.Prelude.{◌≡◌, pos, ◌*ℤ◌, Bool, false, ◌||◌, if◌then◌else◌}
use Rattle.theory_lists.specs.Parity.{differ}
use Rattle.theory_numbers.specs.Tests.{is_positive}
use Rattle.theory_numbers.specs.Arrows.{Arrow, arrow, cross, dot, opposite}
use Rattle.theory_numbers.specs.Rationals.{rational, IsRational, IsBelow, IsAtMost, is_below}
use Rattle.theory_plane.specs.Sides.{LineSide, line}
use Rattle.theory_plane.specs.Points.{FacePoint, face_point}
use Rattle.sb_fraction.specs.declared.point.Point.{Point}
use Rattle.sb_fraction.specs.declared.direction.Direction.{Direction}
use Rattle.sb_fraction.specs.Spots.{Spot, Vector, vector}
use Rattle.sb_fraction.specs.Edges.{Edge, span_of}
use Rattle.sb_fraction.specs.Crossings.{abscissa_at, ends_over, cross_over}

-- the numbers of a direction
abbrev pub arrow_along : Direction → Arrow
arrow_along d = arrow d.x d.y

-- a vector of the plan, as one of space
abbrev pub flat : Arrow → Vector
flat d = vector d.x d.y (pos 0)

-- the way from the origin to a plan point
abbrev pub place : Point → Arrow
place p = arrow p.x p.y

-- a point in the frame of d
abbrev pub in_frame : Arrow → Spot → FacePoint
in_frame d p = face_point (dot d (arrow p.x p.y)) (cross d (arrow p.x p.y)) p.w

-- the vector of an edge turned along d: from its end of lesser abscissa to that of greater
unfoldable pub span_along : Arrow → Edge → Arrow
span_along d e = if is_positive (dot d (span_of e)) then span_of e else opposite (span_of e)

-- the line that an edge lies on in the frame of d, for an edge that does not stand at right angles
-- to d: with its vector s turned along d, (d·s)·v = (d×s)·u + (d·d)(s×a). For d = (1, 0) the edge
-- from (0, 0) to (10, 5) has the line 10·v = 5·u
abbrev pub line_over : Arrow → Edge → LineSide
line_over d e =
    let s = span_along d e in
    line (dot d s) (cross d s) (dot d d *ℤ cross s (place e.a))

-- the plan point lies after u, by its abscissa
abbrev pub lies_after : Arrow → Arrow → Point → Bool
lies_after d u p = is_below u (rational (abscissa_at p (flat d)) (pos 1))

-- the edge reaches past u: one of its ends lies at or before u, the other after it
abbrev pub reaches_past : Arrow → Arrow → Edge → Bool
reaches_past d u e = differ (lies_after d u e.a) (lies_after d u e.b)

-- at u one of two edges ends, or the two cross
abbrev pub is_break : Arrow → Arrow → Edge → Edge → Bool
is_break d u e f =
    (ends_over (flat d) u e || ends_over (flat d) u f) || cross_over (flat d) u e f

-- u lies after w and before the next end or crossing of two edges: none comes after w and up to u
pub record IsBeforeNext (d : Arrow) (e f : Edge) (w u : Arrow) : Type 0 where
  pub rational : IsRational u
  pub after : IsBelow w u
  pub none : (y : Arrow) → IsRational y → IsBelow w y → IsAtMost y u
      → is_break d y e f ≡ false
