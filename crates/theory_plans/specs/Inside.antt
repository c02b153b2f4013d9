-- The points inside a plan.

use Rattle.std.specs.Prelude.{pos, ◌*ℤ◌, Bool, false, not, ◌&&◌, int_lt, List, if◌then◌else◌}
use Rattle.std.specs.List.{list_any}
use Rattle.theory_lists.specs.Parity.{is_odd_number}
use Rattle.sb_fraction.specs.declared.point.Point.{Point}
use Rattle.sb_fraction.specs.Spots.{Spot}
use Rattle.sb_fraction.specs.Edges.{Edge, turn_at, is_on}
use Rattle.theory_plans.specs.LoopEdges.{edges_of}

-- the plan point has a greater y than p
abbrev pub is_higher : Spot → Point → Bool
is_higher p a = int_lt p.y (a.y *ℤ p.w)

-- the edge crosses the horizontal ray from p to the right: exactly one of its ends has a greater y
-- than p, and at p's y the edge has a greater x. That is so where p lies left of an edge that goes
-- up, or right of one that goes down
abbrev pub is_crossed : Spot → Edge → Bool
is_crossed p e =
    if is_higher p e.b
    then (if is_higher p e.a then false else int_lt (pos 0) (turn_at e p))
    else (if is_higher p e.a then int_lt (turn_at e p) (pos 0) else false)

-- p lies inside the loops: on no edge, and an odd number of edges cross the ray to its right
abbrev pub is_in_plan : List (List Point) → Spot → Bool
is_in_plan loops p =
    not (list_any (is_on p) (edges_of loops)) && is_odd_number (is_crossed p) (edges_of loops)
