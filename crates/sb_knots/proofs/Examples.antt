-- Worked steps over numbers of edges: those of a triangle.

use Rattle.std.proofs.Common.{◌≡◌, refl, pos, true, false, List, [], ◌∷◌}
use Rattle.theory_numbers.specs.Arrows.{cross, dot}
use Rattle.sb_fraction.specs.Edges.{edge}
use Rattle.theory_plans.specs.Rectangles.{corner}
use Rattle.theory_sweep.specs.Corners.{Corner, corner_at}
use Rattle.sb_knots.specs.declared.begun.Begun.TheVariants.{Neither, One, Two}
use Rattle.sb_knots.specs.Steps.{edge_at, begun_at, closed_at, is_edge, are_linked, joint_at}
use Rattle.sb_knots.specs.Steps.{is_even_below, may_follow}

-- the corners of (0, 0), (4, 0), (0, 3) as they are passed
abbrev triangle : List Corner
triangle =
    corner_at (corner (pos 0) (pos 3)) (corner (pos 0) (pos 0)) (corner (pos 4) (pos 0))
    ∷ corner_at (corner (pos 4) (pos 0)) (corner (pos 0) (pos 3)) (corner (pos 0) (pos 0))
    ∷ corner_at (corner (pos 0) (pos 0)) (corner (pos 4) (pos 0)) (corner (pos 0) (pos 3)) ∷ []

-- edge 1 goes from its first corner to the point after
edge_one : edge_at triangle 1 ≡ edge (corner (pos 0) (pos 0)) (corner (pos 4) (pos 0))
edge_one = refl

-- it has six
six_edges : is_edge triangle 5 ≡ true
six_edges = refl

no_seventh : is_edge triangle 6 ≡ false
no_seventh = refl

-- at its first corner both begin, that to the point after below the other; then one; then none
both_begin :
    begun_at (corner_at (corner (pos 0) (pos 3)) (corner (pos 0) (pos 0)) (corner (pos 4) (pos 0))) 0
    ≡ Two 1 0
unfolding cross dot
both_begin = refl

one_begins :
    begun_at (corner_at (corner (pos 4) (pos 0)) (corner (pos 0) (pos 3)) (corner (pos 0) (pos 0))) 1
    ≡ One 2
unfolding cross dot
one_begins = refl

none_begins :
    begun_at (corner_at (corner (pos 0) (pos 0)) (corner (pos 4) (pos 0)) (corner (pos 0) (pos 3))) 2
    ≡ Neither
unfolding cross dot
none_begins = refl

-- no edge lies below the lower one: the solid is on its left
even_below : is_even_below 0 (Two 1 0) ≡ true
even_below = refl

odd_below : is_even_below 0 (Two 0 1) ≡ false
odd_below = refl

-- at (0, 3) edge 0 ends, behind edge 1, and edge 2 takes its place
ends_there : closed_at triangle (corner (pos 0) (pos 3)) 1 (1 ∷ 0 ∷ []) ≡ 1 ∷ []
unfolding cross dot
ends_there = refl

joined_there : joint_at 1 (One 2) (1 ∷ []) ≡ 1 ∷ 2 ∷ []
joined_there = refl

may_be_joined : are_linked (may_follow triangle) (1 ∷ 2 ∷ []) ≡ true
unfolding cross dot
may_be_joined = refl
