-- Worked loops: on which side of each edge the solid lies, which loops are turned, what lies beside
-- an edge, and how the edges over one abscissa run.

use Rattle.std.proofs.Common.{◌≡◌, refl, ℕ, pos, neg_ℤ, true, false, Bool, List, [], ◌∷◌, map}
use Rattle.theory_lists.specs.Parity.{is_odd_number}
use Rattle.theory_numbers.specs.Tests.{is_positive}
use Rattle.theory_numbers.specs.Arrows.{Arrow, arrow, cross, dot}
use Rattle.theory_numbers.specs.Rationals.{rational}
use Rattle.theory_plane.specs.Sides.{value_on}
use Rattle.sb_fraction.specs.declared.point.Point.{Point}
use Rattle.sb_fraction.specs.Spots.{spot}
use Rattle.sb_fraction.specs.Edges.{Edge, edge, span_of}
use Rattle.sb_fraction.specs.Lines.{span_along, reaches_past}
use Rattle.theory_plans.specs.Inside.{is_in_plan}
use Rattle.theory_plans.specs.LoopEdges.{edges_of}
use Rattle.theory_plans.specs.Plans.{is_solid_left_of}
use Rattle.theory_plans.specs.Rectangles.{corner, rectangle}
use Rattle.theory_parity.specs.Below.{is_lower_at, value_of}
use Rattle.theory_parity.specs.Sides.{turned_loop, put_left, beside}

abbrev at : ℕ → ℕ → Point
at x y = corner (pos x) (pos y)

-- counterclockwise from the least corner
abbrev square : ℕ → ℕ → List Point
square low high = rectangle (pos low) (pos high) (pos low) (pos high)

-- whether the solid lies on the left, edge by edge
abbrev sides_of : List (List Point) → List Bool
sides_of loops = map (λ e. is_solid_left_of e (edges_of loops)) (edges_of loops)

abbrev turned_where_asked : List (List Point) → List (List Point)
turned_where_asked loops = map (put_left (edges_of loops)) loops

-- ---- one answer a loop

-- a room with a hole, which is clockwise, and in the hole an island
abbrev with_island : List (List Point)
with_island = square 0 9 ∷ turned_loop (square 2 7) ∷ square 4 5 ∷ []

hole_and_island :
    sides_of with_island
    ≡ true ∷ true ∷ true ∷ true ∷ true ∷ true ∷ true ∷ true ∷ true ∷ true ∷ true ∷ true ∷ []
unfolding cross
hole_and_island = refl

-- a triangle that is clockwise
abbrev wrong_triangle : List (List Point)
wrong_triangle = (at 0 0 ∷ at 0 9 ∷ at 9 0 ∷ []) ∷ []

triangle_turned_the_wrong_way : sides_of wrong_triangle ≡ false ∷ false ∷ false ∷ []
unfolding cross
triangle_turned_the_wrong_way = refl

triangle_put_right : turned_where_asked wrong_triangle ≡ (at 0 0 ∷ at 9 0 ∷ at 0 9 ∷ []) ∷ []
unfolding cross
triangle_put_right = refl

-- all three counterclockwise: the solid lies right of the hole's edges alone
abbrev all_one_way : List (List Point)
all_one_way = square 0 9 ∷ square 2 7 ∷ square 4 5 ∷ []

hole_turned_the_wrong_way :
    sides_of all_one_way
    ≡ true ∷ true ∷ true ∷ true ∷ false ∷ false ∷ false ∷ false ∷ true ∷ true ∷ true ∷ true ∷ []
unfolding cross
hole_turned_the_wrong_way = refl

hole_put_right : turned_where_asked all_one_way ≡ with_island
unfolding cross
hole_put_right = refl

-- where two edges of a loop cross, its edges have no one answer
bow_tie : sides_of ((at 0 0 ∷ at 4 4 ∷ at 4 0 ∷ at 0 4 ∷ []) ∷ [])
    ≡ false ∷ false ∷ true ∷ true ∷ []
unfolding cross
bow_tie = refl

-- ---- beside an edge

-- the lower edge of the hole, from its greater x on, which has the room on its left
abbrev hole_edge : Edge
hole_edge = edge (at 7 2) (at 2 2)

-- at (3, 2) and the numbers 1/100 and 1/5: one thousandth of the room on its left is inside, and so
-- is what lies one edge's fifth away; right of it lies the hole
left_and_right :
    map (is_in_plan with_island)
    (beside hole_edge (spot (pos 3) (pos 2) (pos 0) (pos 1)) (rational (pos 1) (pos 100))
    ∷ beside hole_edge (spot (pos 3) (pos 2) (pos 0) (pos 1)) (rational (pos 1) (pos 5))
    ∷ beside hole_edge (spot (pos 3) (pos 2) (pos 0) (pos 1)) (rational (neg_ℤ (pos 1)) (pos 100))
    ∷ [])
    ≡ true ∷ true ∷ false ∷ []
unfolding cross
left_and_right = refl

-- half the edge's length away the room ends, and on the right of (9/2, 2) the island comes
too_far :
    map (is_in_plan with_island)
    (beside hole_edge (spot (pos 3) (pos 2) (pos 0) (pos 1)) (rational (pos 1) (pos 2))
    ∷ beside hole_edge (spot (pos 9) (pos 4) (pos 0) (pos 2)) (rational (neg_ℤ (pos 1)) (pos 2))
    ∷ [])
    ≡ false ∷ true ∷ []
unfolding cross
too_far = refl

-- ---- along a direction

-- how the edges over u run, and whether an odd number lies below each
abbrev senses_over : Arrow → Arrow → List (List Point) → List Edge → List (List Bool)
senses_over d u loops edges =
    map
    (λ e. reaches_past d u e ∷ is_positive (dot d (span_of e))
    ∷ is_odd_number (is_lower_at d u (value_of d u e)) (edges_of loops) ∷ [])
    edges

-- a triangle with slanted sides, along (1, 0) over 2 and along (1, 2) over 25/2
abbrev slanted : List (List Point)
slanted = (at 0 0 ∷ at 9 1 ∷ at 9 9 ∷ []) ∷ []

along_x : senses_over (arrow (pos 1) (pos 0)) (rational (pos 2) (pos 1)) slanted (edges_of slanted)
    ≡ (true ∷ true ∷ false ∷ []) ∷ (false ∷ false ∷ false ∷ []) ∷ (true ∷ false ∷ true ∷ []) ∷ []
unfolding cross dot span_along value_on
along_x = refl

along_a_slanted_way :
    senses_over (arrow (pos 1) (pos 2)) (rational (pos 25) (pos 2)) slanted (edges_of slanted)
    ≡ (false ∷ true ∷ false ∷ []) ∷ (true ∷ true ∷ false ∷ []) ∷ (true ∷ false ∷ true ∷ []) ∷ []
unfolding cross dot span_along value_on
along_a_slanted_way = refl

-- over 0, where two edges begin, no edge lies below either, though one of them runs against (1, 0)
over_a_corner :
    senses_over (arrow (pos 1) (pos 0)) (rational (pos 0) (pos 1)) slanted (edges_of slanted)
    ≡ (true ∷ true ∷ false ∷ []) ∷ (false ∷ false ∷ false ∷ []) ∷ (true ∷ false ∷ false ∷ []) ∷ []
unfolding cross dot span_along value_on
over_a_corner = refl

-- the edges of the room with hole and island over 9/2, from below: along, against, along, and so on
six_edges :
    senses_over (arrow (pos 1) (pos 0)) (rational (pos 9) (pos 2)) with_island
    (edge (at 0 0) (at 9 0) ∷ edge (at 7 2) (at 2 2) ∷ edge (at 4 4) (at 5 4)
    ∷ edge (at 5 5) (at 4 5) ∷ edge (at 2 7) (at 7 7) ∷ edge (at 9 9) (at 0 9) ∷ [])
    ≡ (true ∷ true ∷ false ∷ []) ∷ (true ∷ false ∷ true ∷ []) ∷ (true ∷ true ∷ false ∷ [])
    ∷ (true ∷ false ∷ true ∷ []) ∷ (true ∷ true ∷ false ∷ []) ∷ (true ∷ false ∷ true ∷ []) ∷ []
unfolding cross dot span_along value_on
six_edges = refl
