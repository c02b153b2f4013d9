-- Worked points: inside, outside and on the edges of a slanted plan with a hole.

use Rattle.std.proofs.Common.{◌≡◌, refl, true, false, List, [], ◌∷◌, ℤ, pos, negsuc}
use Rattle.std.specs.List.{list_all, list_any}
use Rattle.theory_numbers.specs.Arrows.{cross, dot}
use Rattle.sb_fraction.specs.declared.point.Point.{Point}
use Rattle.sb_fraction.specs.Spots.{Spot, spot}
use Rattle.sb_fraction.specs.Edges.{is_on, edge}
use Rattle.theory_plans.specs.Inside.{is_in_plan}
use Rattle.theory_plans.specs.Rectangles.{corner}

-- the triangle (0, 0), (9, 0), (0, 9) with the triangular hole (1, 1), (1, 4), (4, 1)
abbrev plan : List (List Point)
plan =
    (corner (pos 0) (pos 0) ∷ corner (pos 9) (pos 0) ∷ corner (pos 0) (pos 9) ∷ [])
    ∷ (corner (pos 1) (pos 1) ∷ corner (pos 1) (pos 4) ∷ corner (pos 4) (pos 1) ∷ [])
    ∷ []

-- the plan point (x/w, y/w)
abbrev spot_at : ℤ → ℤ → ℤ → Spot
spot_at x y w = spot x y (pos 0) w

-- between the slanted edges of plan and hole, at (3, 3), and the same point with the denominator 2;
-- level with the hole's corner (1, 4), to its left: the ray through a corner counts it once or not
-- at all
these_are_inside :
    list_all (is_in_plan plan)
    (spot_at (pos 3) (pos 3) (pos 1) ∷ spot_at (pos 6) (pos 6) (pos 2)
    ∷ spot_at (pos 1) (pos 8) (pos 2) ∷ [])
    ≡ true
unfolding cross dot
these_are_inside = refl

-- in the hole, at (3/2, 3/2), and right and left of the plan
these_are_outside :
    list_any (is_in_plan plan)
    (spot_at (pos 3) (pos 3) (pos 2) ∷ spot_at (pos 6) (pos 4) (pos 1)
    ∷ spot_at (negsuc 0) (pos 1) (pos 1) ∷ [])
    ≡ false
unfolding cross dot
these_are_outside = refl

-- on the slanted edge at (9/2, 9/2), on the hole's slanted edge at (5/2, 5/2), and in a corner
points_of_edges_are_not :
    list_any (is_in_plan plan)
    (spot_at (pos 9) (pos 9) (pos 2) ∷ spot_at (pos 5) (pos 5) (pos 2)
    ∷ spot_at (pos 0) (pos 0) (pos 1) ∷ [])
    ≡ false
unfolding cross dot
points_of_edges_are_not = refl

-- past the end of an edge, on its line
past_the_end :
    is_on (spot_at (pos 10) (pos 0) (pos 1))
    (edge (corner (pos 0) (pos 0)) (corner (pos 9) (pos 0))) ≡ false
unfolding cross dot
past_the_end = refl
