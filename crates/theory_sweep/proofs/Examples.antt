-- Worked corners and neighbours, and what the definitions refuse.

use Rattle.std.proofs.Common.{◌≡◌, refl, pos, negsuc, true, false, [], ◌∷◌}
use Rattle.theory_numbers.specs.Arrows.{cross, dot}
use Rattle.sb_fraction.specs.Edges.{edge}
use Rattle.theory_plans.specs.Rectangles.{corner}
use Rattle.theory_sweep.specs.Corners.{corner_at, corners_of}
use Rattle.theory_sweep.specs.Open.{is_under, may_be_neighbours, last_item, first_item}
use Rattle.theory_sweep.specs.Passing.{pass_of, sweep_way}

-- a point with a lesser x is passed first, wherever in range it lies
left_first : pass_of sweep_way (corner (pos 0) (pos 500000)) ≡ pos 500000
left_first = refl

right_later : pass_of sweep_way (corner (pos 1) (negsuc 499999)) ≡ pos 500001
right_later = refl

-- the corners of a triangle, each with its neighbours; the last point comes before the first
corners_of_triangle :
    corners_of ((corner (pos 0) (pos 0) ∷ corner (pos 4) (pos 0) ∷ corner (pos 0) (pos 3) ∷ []) ∷ [])
    ≡ corner_at (corner (pos 0) (pos 3)) (corner (pos 0) (pos 0)) (corner (pos 4) (pos 0))
    ∷ corner_at (corner (pos 0) (pos 0)) (corner (pos 4) (pos 0)) (corner (pos 0) (pos 3))
    ∷ corner_at (corner (pos 4) (pos 0)) (corner (pos 0) (pos 3)) (corner (pos 0) (pos 0)) ∷ []
corners_of_triangle = refl

-- an edge lies below a point on its left, and not below one on it
below_its_left :
    is_under (corner (pos 1) (pos 2)) (edge (corner (pos 0) (pos 0)) (corner (pos 4) (pos 4))) ≡ true
unfolding cross dot
below_its_left = refl

not_below_its_own :
    is_under (corner (pos 2) (pos 2)) (edge (corner (pos 0) (pos 0)) (corner (pos 4) (pos 4))) ≡ false
unfolding cross dot
not_below_its_own = refl

-- two that begin together may be neighbours, and so may two that do not touch
begin_together :
    may_be_neighbours (edge (corner (pos 0) (pos 0)) (corner (pos 4) (pos 0)))
    (edge (corner (pos 0) (pos 0)) (corner (pos 4) (pos 4))) ≡ true
unfolding cross dot
begin_together = refl

do_not_touch :
    may_be_neighbours (edge (corner (pos 0) (pos 0)) (corner (pos 4) (pos 0)))
    (edge (corner (pos 0) (pos 1)) (corner (pos 4) (pos 4))) ≡ true
unfolding cross dot
do_not_touch = refl

-- two that cross may not, nor may one on which another begins
cross_over :
    may_be_neighbours (edge (corner (pos 0) (pos 0)) (corner (pos 4) (pos 4)))
    (edge (corner (pos 0) (pos 4)) (corner (pos 4) (pos 0))) ≡ false
unfolding cross dot
cross_over = refl

begins_on_it :
    may_be_neighbours (edge (corner (pos 0) (pos 0)) (corner (pos 4) (pos 4)))
    (edge (corner (pos 2) (pos 2)) (corner (pos 4) (pos 0))) ≡ false
unfolding cross dot
begins_on_it = refl

-- the ends of a list
ends_of_list : last_item (pos 1 ∷ pos 2 ∷ pos 3 ∷ []) ≡ pos 3 ∷ []
ends_of_list = refl

begin_of_list : first_item (pos 1 ∷ pos 2 ∷ []) ≡ pos 1 ∷ []
begin_of_list = refl
