-- Which loops are the plan of a solid.

use Rattle.std.specs.Prelude.{pos, neg_ℤ, ◌+ℤ◌, ◌*ℤ◌, Bool, true, not, ◌&&◌, ◌||◌, int_lt, List, []}
use Rattle.std.specs.Prelude.{◌∷◌, ◌++◌}
use Rattle.std.specs.Ordering.{int_eq}
use Rattle.std.specs.List.{list_all}
use Rattle.theory_lists.specs.Parity.{is_odd_number}
use Rattle.theory_numbers.specs.Arrows.{Arrow, arrow}
use Rattle.sb_fraction.specs.declared.point.Point.{Point}
use Rattle.sb_fraction.specs.Spots.{Spot, spot, spot_at}
use Rattle.sb_fraction.specs.Edges.{Edge, span_of, turn_at, is_on}
use Rattle.theory_plans.specs.LoopEdges.{edges_of}
use Rattle.theory_plans.specs.Loops.{are_loops}
use Rattle.theory_plans.specs.Rays.{is_struck}

-- ---- the edges are apart

-- two plan points are one
abbrev pub is_same_point : Point → Point → Bool
is_same_point a b = int_eq a.x b.x && int_eq a.y b.y

-- the ends of f lie on different sides of the line of e, neither on it
abbrev pub is_parted : Edge → Edge → Bool
is_parted e f = int_lt (turn_at e (spot_at f.a) *ℤ turn_at e (spot_at f.b)) (pos 0)

-- two edges touch: an end of one lies on the other, or the line of each parts the ends of the other
abbrev pub do_touch : Edge → Edge → Bool
do_touch e f =
    is_on (spot_at e.a) f || (is_on (spot_at e.b) f || (is_on (spot_at f.a) e
    || (is_on (spot_at f.b) e || (is_parted e f && is_parted f e))))

-- one of the two begins where the other ends
abbrev pub is_consecutive : Edge → Edge → Bool
is_consecutive e f = is_same_point e.b f.a || is_same_point f.b e.a

-- the test holds of each two items at different places, the earlier one first
abbrev pub is_of_each_two : {X : Type 0} → (X → X → Bool) → List X → Bool
is_of_each_two test [] = true
is_of_each_two test (x ∷ xs) = list_all (test x) xs && is_of_each_two test xs

-- the corners of all loops
abbrev pub corners_in : List (List Point) → List Point
corners_in [] = []
corners_in (points ∷ loops) = points ++ corners_in loops

-- no point is a corner twice, and no two edges touch but where one begins as the other ends. So
-- edges meet only where they are consecutive, at their common end
abbrev pub are_apart : List (List Point) → Bool
are_apart loops =
    is_of_each_two (λ a b. not (is_same_point a b)) (corners_in loops)
    && is_of_each_two (λ e f. is_consecutive e f || not (do_touch e f)) (edges_of loops)

-- ---- the solid lies on the left

-- the middle of an edge
abbrev pub middle_of : Edge → Spot
middle_of e = spot (e.a.x +ℤ e.b.x) (e.a.y +ℤ e.b.y) (pos 0) (pos 2)

-- the way to the right of an edge, at right angles
abbrev pub right_of : Edge → Arrow
right_of e = arrow (span_of e).y (neg_ℤ (span_of e).x)

-- the solid of these edges lies on the left of e: the ray from its middle to its right strikes an
-- even number of them, so it comes out of the solid
abbrev pub is_solid_left_of : Edge → List Edge → Bool
is_solid_left_of e edges = not (is_odd_number (is_struck (right_of e) (middle_of e)) edges)

-- it does so for each edge
abbrev pub keep_left : List (List Point) → Bool
keep_left loops = list_all (λ e. is_solid_left_of e (edges_of loops)) (edges_of loops)

-- ---- plans

-- normalised loops, with edges that are apart and the solid on the left of each
abbrev pub is_plan : List (List Point) → Bool
is_plan loops = are_loops loops && (are_apart loops && keep_left loops)
