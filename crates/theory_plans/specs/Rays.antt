-- Rays of any direction, and the edges that they strike.

use Rattle.std.specs.Prelude.{pos, Bool, false, int_lt, if◌then◌else◌}
use Rattle.theory_numbers.specs.Arrows.{Arrow, cross}
use Rattle.sb_fraction.specs.declared.point.Point.{Point}
use Rattle.sb_fraction.specs.Spots.{Spot}
use Rattle.sb_fraction.specs.Edges.{Edge, seen_from, turn_at}

-- the plan point lies left of the line on which the ray from p along r runs
abbrev pub is_left_of : Arrow → Spot → Point → Bool
is_left_of r p a = int_lt (pos 0) (cross r (seen_from p a))

-- the ray from p along r strikes the edge: exactly one of its ends lies left of the line of the ray,
-- and the edge meets this line ahead of p. That is so where p lies left of an edge that goes over to
-- the left side, or right of one that comes from there. A ray never strikes an edge on which it
-- begins
abbrev pub is_struck : Arrow → Spot → Edge → Bool
is_struck r p e =
    if is_left_of r p e.b
    then (if is_left_of r p e.a then false else int_lt (pos 0) (turn_at e p))
    else (if is_left_of r p e.a then int_lt (turn_at e p) (pos 0) else false)
