-- Edges in plan, and where a point lies beside one.

use Rattle.std.specs.Prelude.{ℤ, pos, ◌-ℤ◌, ◌*ℤ◌, Bool, ◌&&◌, int_lt, int_le}
use Rattle.std.specs.declared.cmp.Ordering.{Ordering}
use Rattle.std.specs.Ordering.{int_eq, int_cmp}
use Rattle.sb_fraction.specs.declared.point.Point.{Point}
use Rattle.sb_fraction.specs.declared.point.Segment.{Segment}
use Rattle.theory_numbers.specs.Arrows.{Arrow, arrow, cross, dot}
use Rattle.sb_fraction.specs.Plane.{is_plan_point, are_two_points}
use Rattle.sb_fraction.specs.Spots.{Spot, spot_at}

-- an edge from a to b
pub record Edge : Type 0 where
  pub a : Point
  pub b : Point

abbrev pub edge : Point → Point → Edge
edge a b = record { a = a; b = b }

-- a segment as an edge
abbrev pub edge_of : Segment → Edge
edge_of s = edge s.a s.b

-- both ends of the edge are in range
abbrev pub is_in_range : Edge → Bool
is_in_range e = is_plan_point e.a && is_plan_point e.b

-- the ends of the edge differ
abbrev pub has_length : Edge → Bool
has_length e = are_two_points e.a.x e.a.y e.b.x e.b.y

-- the vector of an edge, from a to b
abbrev pub span_of : Edge → Arrow
span_of e = arrow (e.b.x -ℤ e.a.x) (e.b.y -ℤ e.a.y)

-- where a plan point lies as seen from p, w times as far
abbrev pub seen_from : Spot → Point → Arrow
seen_from p a = arrow ((a.x *ℤ p.w) -ℤ p.x) ((a.y *ℤ p.w) -ℤ p.y)

-- above 0 where p has the edge on its left as it runs from a to b: p lies left of the edge's line
abbrev pub turn_at : Edge → Spot → ℤ
turn_at e p = cross (seen_from p e.a) (seen_from p e.b)

-- below 0 where the two ends lie on opposite sides of p, 0 where one of them is p
abbrev pub reach_at : Edge → Spot → ℤ
reach_at e p = dot (seen_from p e.a) (seen_from p e.b)

-- where p lies beside the line of an edge that runs from a to b: `Less` right of it, `Equal` on it,
-- `Greater` left of it
abbrev pub side_of : Edge → Spot → Ordering
side_of e p = int_cmp (turn_at e p) (pos 0)

-- both ends of the second edge lie on the line of the first
abbrev pub are_collinear : Edge → Edge → Bool
are_collinear e f =
    int_eq (turn_at e (spot_at f.a)) (pos 0) && int_eq (turn_at e (spot_at f.b)) (pos 0)

-- p lies on the edge in plan, its ends taken in
abbrev pub is_on : Spot → Edge → Bool
is_on p e = int_eq (turn_at e p) (pos 0) && int_le (reach_at e p) (pos 0)

-- p lies on the edge strictly between its ends
abbrev pub is_within : Spot → Edge → Bool
is_within p e = int_eq (turn_at e p) (pos 0) && int_lt (reach_at e p) (pos 0)
