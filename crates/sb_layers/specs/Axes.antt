-- The axis that an element's layers follow, in the world.

use Rattle.std.specs.Prelude.{ℕ, ℤ, pos, neg_ℤ, ◌==◌, ◌+ℤ◌, ◌*ℤ◌, Bool, not, ◌&&◌, ◌||◌, int_lt, int_le}
use Rattle.std.specs.Prelude.{List, [], ◌∷◌, Option, Some, None, if◌then◌else◌}
use Rattle.std.specs.Ordering.{int_eq}
use Rattle.std.specs.List.{list_all, list_any, find}
use Rattle.sb_fraction.specs.declared.point.Point.{Point}
use Rattle.sb_fraction.specs.Spots.{Vector, vector, inner, opposite}
use Rattle.sb_fraction.specs.Edges.{Edge, span_of}
use Rattle.sb_fraction.specs.Directions.{normal_over}
use Rattle.theory_plans.specs.LoopEdges.{edges_of, edges_of_loop}
use Rattle.theory_turns.specs.Turns.{Quarter, y_of}
use Rattle.sb_model.specs.Solids.{Upright}
use Rattle.sb_model.specs.Walks.{is_across}

-- the square of the length of an edge
abbrev pub squared_length : Edge → ℤ
squared_length e =
    ((span_of e).x *ℤ (span_of e).x) +ℤ ((span_of e).y *ℤ (span_of e).y)

-- none of these edges is longer
abbrev pub is_longest : List Edge → Edge → Bool
is_longest es e = list_all (λ f. int_le (squared_length f) (squared_length e)) es

-- the first of the longest edges
abbrev pub longest_of : List Edge → Option Edge
longest_of es = find (is_longest es) es

-- the edges of the outer loop, the first of a plan
abbrev pub outer_edges : List (List Point) → List Edge
outer_edges [] = []
outer_edges (points ∷ loops) = edges_of_loop points

-- turned clockwise by a quarter, seen from above
abbrev pub clockwise : Vector → Vector
clockwise v = vector v.y (neg_ℤ v.x) v.z

-- n points as y does: their product is above 0, or it is 0 and that of n with y turned clockwise is
abbrev pub points_with : Vector → Vector → Bool
points_with y n =
    int_lt (pos 0) (inner n y)
    || (int_eq (inner n y) (pos 0) && int_lt (pos 0) (inner n (clockwise y)))

-- the one of a vector and its opposite that points as y does
abbrev pub sense_of : Vector → Vector → Vector
sense_of y n = if points_with y n then n else opposite n

-- the normal of an edge, in the sense of y
abbrev pub normal_with : Vector → Option Edge → Vector
normal_with y None = y
normal_with y (Some e) = sense_of y (normal_over e)

-- across an element whose local y is this in the world: y itself where it is vertical or an edge of
-- the plan stands at right angles to it, else the normal of the longest edge of the outer loop
abbrev pub across_element : Upright → Vector → Vector
across_element s y =
    if not (int_eq y.z (pos 0)) || list_any (is_across y) (edges_of s.loops)
    then y
    else normal_with y (longest_of (outer_edges s.loops))

-- the axis of this number: 1 along the local x, 3 along the local z, 2 across the element
abbrev pub axis_numbered : Upright → Quarter → ℕ → Vector
axis_numbered s turn number =
    if number == 1 then turn.x
    else (if number == 2 then across_element s (y_of turn) else turn.z)

-- the axis of an element, reversed where its sense is negative
abbrev pub axis_along : Upright → Quarter → ℕ → Bool → Vector
axis_along s turn number negative =
    if negative then opposite (axis_numbered s turn number) else axis_numbered s turn number
