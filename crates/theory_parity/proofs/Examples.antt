-- Worked points and directions: what lies inside, read along several directions, and which loops,
-- ways and regions the laws do not speak of.

use Rattle.std.proofs.Common.{◌≡◌, refl, true, false, Bool, List, [], ◌∷◌, ℕ, pos, neg_ℤ, map}
use Rattle.std.specs.List.{list_any}
use Rattle.theory_lists.specs.Parity.{differ, is_odd_number}
use Rattle.theory_numbers.specs.Arrows.{Arrow, arrow, cross, dot}
use Rattle.theory_numbers.specs.Rationals.{rational}
use Rattle.theory_plane.specs.Sides.{level, value_on}
use Rattle.theory_plane.specs.Points.{is_above_side}
use Rattle.theory_plane.specs.Regions.{Region}
use Rattle.sb_fraction.specs.declared.point.Point.{Point}
use Rattle.sb_fraction.specs.Spots.{Spot, spot}
use Rattle.sb_fraction.specs.Edges.{Edge, edge, is_on}
use Rattle.sb_fraction.specs.Lines.{in_frame, span_along, line_over}
use Rattle.theory_plans.specs.LoopEdges.{edges_of}
use Rattle.theory_plans.specs.Inside.{is_in_plan}
use Rattle.theory_plans.specs.Plans.{is_plan}
use Rattle.theory_plans.specs.Rectangles.{corner, rectangle}
use Rattle.theory_parity.specs.Below.{is_below_at, is_in_along, spot_in, is_lower_at, is_up_to_at}
use Rattle.theory_parity.specs.Halves.{is_in_all, on_way}
use Rattle.theory_parity.specs.RegionsAlong.{four_halves, is_in_region}

abbrev at : ℕ → ℕ → Point
at x y = corner (pos x) (pos y)

-- the point (x/w, y/w)
abbrev spot_by : ℕ → ℕ → ℕ → Spot
spot_by x y w = spot (pos x) (pos y) (pos 0) (pos w)

-- the triangle (0, 0), (9, 0), (0, 9) with the triangular hole (1, 1), (1, 4), (4, 1)
abbrev plan : List (List Point)
plan = (at 0 0 ∷ at 9 0 ∷ at 0 9 ∷ []) ∷ (at 1 1 ∷ at 1 4 ∷ at 4 1 ∷ []) ∷ []

-- a slanted triangle
abbrev slanted : List (List Point)
slanted = (at 0 0 ∷ at 6 2 ∷ at 3 7 ∷ []) ∷ []

-- along (1, 3) and along (0, 1), as the definition says: inside at (3, 3), outside at (1, 5)
slanted_triangle :
    is_in_plan slanted (spot_by 3 3 1) ∷ is_in_along (arrow (pos 1) (pos 3)) slanted (spot_by 3 3 1)
    ∷ is_in_along (arrow (pos 0) (pos 1)) slanted (spot_by 3 3 1)
    ∷ is_in_plan slanted (spot_by 1 5 1) ∷ is_in_along (arrow (pos 1) (pos 3)) slanted (spot_by 1 5 1)
    ∷ []
    ≡ true ∷ true ∷ true ∷ false ∷ false ∷ []
unfolding cross dot span_along
slanted_triangle = refl

-- an edge that runs upwards reaches past y = 2 at its x: along (0, 1) it lies below what is left of
-- it. A level edge lies below no point along (0, 1)
upright_edge :
    map (is_below_at (arrow (pos 0) (pos 1)) (spot_by 1 2 1))
    (edge (at 4 0) (at 4 5) ∷ edge (at 0 0) (at 0 5) ∷ edge (at 0 0) (at 4 0) ∷ [])
    ≡ true ∷ false ∷ false ∷ []
unfolding cross dot span_along
upright_edge = refl

-- in the hole, beside it, on the plan's slanted edge, each along (1, 0) and along (1, 3)
plan_with_a_hole :
    is_in_along (arrow (pos 1) (pos 0)) plan (spot_by 3 3 2)
    ∷ is_in_along (arrow (pos 1) (pos 3)) plan (spot_by 3 3 2)
    ∷ is_in_along (arrow (pos 1) (pos 0)) plan (spot_by 3 3 1)
    ∷ is_in_along (arrow (pos 1) (pos 3)) plan (spot_by 3 3 1)
    ∷ is_in_along (arrow (pos 1) (pos 3)) plan (spot_by 9 9 2) ∷ []
    ≡ false ∷ false ∷ true ∷ true ∷ false ∷ []
unfolding cross dot span_along
plan_with_a_hole = refl

-- a plan with the corners (8, 4), (6, 4) and (2, 4) in line
abbrev notched : List (List Point)
notched =
    (at 0 0 ∷ at 10 0 ∷ at 8 4 ∷ at 10 8 ∷ at 6 4 ∷ at 4 8 ∷ at 2 4 ∷ at 0 8 ∷ []) ∷ []

-- along (0, 1) the points (1, 4) and (7, 4), inside, and (9, 4), outside, have the three corners in
-- line: each corner counts once or not at all. Along (1, 0) the answers are the same
in_line_with_three_corners :
    map (is_in_along (arrow (pos 0) (pos 1)) notched)
    (spot_by 1 4 1 ∷ spot_by 7 4 1 ∷ spot_by 9 4 1 ∷ [])
    ≡ true ∷ true ∷ false ∷ []
unfolding cross dot span_along
in_line_with_three_corners = refl

seen_from_aside :
    map (is_in_along (arrow (pos 1) (pos 0)) notched)
    (spot_by 1 4 1 ∷ spot_by 7 4 1 ∷ spot_by 9 4 1 ∷ [])
    ≡ true ∷ true ∷ false ∷ []
unfolding cross dot span_along
seen_from_aside = refl

-- ---- what is refused

-- the line of the edge from (0, 0) to (2, 0) lies below (5, 5), but the edge does not reach past it
not_reaching :
    is_above_side (line_over (arrow (pos 1) (pos 0)) (edge (at 0 0) (at 2 0)))
    (in_frame (arrow (pos 1) (pos 0)) (spot_by 5 5 1))
    ∷ is_below_at (arrow (pos 1) (pos 0)) (spot_by 5 5 1) (edge (at 0 0) (at 2 0)) ∷ []
    ≡ true ∷ false ∷ []
unfolding cross dot span_along
not_reaching = refl

-- from (3, 3), inside the slanted triangle, to (1, 5), outside: (9/5, 21/5) on the way lies on an
-- edge, so they are not points with no edge between them
edge_between :
    list_any (is_on (on_way (pos 2) (spot_by 3 3 1) (pos 3) (spot_by 1 5 1))) (edges_of slanted)
    ≡ true
unfolding cross dot
edge_between = refl

abbrev odd_below : ℕ → ℕ → Bool
odd_below v w =
    is_odd_number
    (is_below_at (arrow (pos 1) (pos 0))
    (spot_in (arrow (pos 1) (pos 0)) (rational (pos 2) (pos 1)) (rational (pos v) (pos w))))
    (edges_of plan)

-- on the line x = 2 the edges of the plan with a hole have the values 0, 1, 3 and 7. Across each of
-- them the parity flips
flips_at_each :
    odd_below 1 2 ∷ odd_below 2 1 ∷ odd_below 5 1 ∷ odd_below 8 1 ∷ []
    ≡ true ∷ false ∷ true ∷ false ∷ []
unfolding cross dot span_along
flips_at_each = refl

-- but not across two of them
two_do_not_flip : differ (odd_below 1 2) (odd_below 5 1) ≡ false
unfolding cross dot span_along
two_do_not_flip = refl

-- ---- regions

-- in the frame of (1, 3) the point (3, 3) has u = 12 and v = -6
abbrev around : Region
around = record {
  low = rational (pos 11) (pos 1);
  high = rational (pos 13) (pos 1);
  lower = level (neg_ℤ (pos 7));
  upper = level (neg_ℤ (pos 5));
}

-- it lies in the region and in its four half-planes; (1, 5), with u = 16, lies in neither, nor does
-- (11/10, 33/10), with u = 11, on the region's end
in_a_region :
    map (is_in_region (arrow (pos 1) (pos 3)) around)
    (spot_by 3 3 1 ∷ spot_by 1 5 1 ∷ spot_by 11 33 10 ∷ [])
    ≡ true ∷ false ∷ false ∷ []
unfolding cross dot
in_a_region = refl

in_four_halves :
    map (is_in_all (four_halves (arrow (pos 1) (pos 3)) around))
    (spot_by 3 3 1 ∷ spot_by 1 5 1 ∷ spot_by 11 33 10 ∷ [])
    ≡ true ∷ false ∷ false ∷ []
in_four_halves = refl

-- two rectangles with a common edge
abbrev side_by_side : List (List Point)
side_by_side =
    rectangle (pos 0) (pos 4) (pos 0) (pos 4) ∷ rectangle (pos 4) (pos 8) (pos 0) (pos 4) ∷ []

-- they are no plan: off the line x = 4 the points of a region about the edge are inside, those on
-- it are not
common_edge :
    is_plan side_by_side ∷ is_in_plan side_by_side (spot_by 3 2 1)
    ∷ is_in_plan side_by_side (spot_by 5 2 1) ∷ is_in_plan side_by_side (spot_by 4 2 1) ∷ []
    ≡ false ∷ true ∷ true ∷ false ∷ []
unfolding cross dot
common_edge = refl

-- ---- by the values on a line

-- a plan with a corner at (5, 5), from which two edges run to greater x
abbrev indented : List (List Point)
indented = (at 0 0 ∷ at 10 0 ∷ at 5 5 ∷ at 10 10 ∷ at 0 10 ∷ []) ∷ []

-- whether an odd number of edges pass the test of a value at x
abbrev odd_by : (Arrow → Arrow → Arrow → Edge → Bool) → ℕ → ℕ → Bool
odd_by test x y =
    is_odd_number
    (test (arrow (pos 1) (pos 0)) (rational (pos x) (pos 1)) (rational (pos y) (pos 1)))
    (edges_of indented)

-- whether an odd number have a value below y at x, whether an odd number at most y, and inside
abbrev by_values : ℕ → ℕ → List Bool
by_values x y =
    odd_by is_lower_at x y ∷ odd_by is_up_to_at x y ∷ is_in_plan indented (spot_by x y 1) ∷ []

-- at x = 6 the values are 0, 4, 6 and 10: 3 is inside, 4 is not, since it is a value, 5 is not
on_a_line_without_a_corner :
    by_values 6 3 ∷ by_values 6 4 ∷ by_values 6 5 ∷ []
    ≡ (true ∷ true ∷ true ∷ []) ∷ (true ∷ false ∷ false ∷ []) ∷ (false ∷ false ∷ false ∷ []) ∷ []
unfolding cross dot span_along value_on
on_a_line_without_a_corner = refl

-- at the corner both numbers are odd, and the point is not inside: the line has to hold no corner
at_a_corner : is_plan indented ∷ by_values 5 5 ≡ true ∷ true ∷ true ∷ false ∷ []
unfolding cross dot span_along value_on
at_a_corner = refl
