-- Worked loops: which of them are plans, and which of the three demands the others fail.

use Rattle.std.proofs.Common.{◌≡◌, refl, ℕ, true, false, Bool, List, [], ◌∷◌, pos}
use Rattle.theory_numbers.specs.Arrows.{cross, dot}
use Rattle.sb_fraction.specs.declared.point.Point.{Point}
use Rattle.theory_plans.specs.Loops.{are_loops}
use Rattle.theory_plans.specs.Plans.{are_apart, keep_left, is_plan}
use Rattle.theory_plans.specs.Rectangles.{corner, rectangle}

abbrev at : ℕ → ℕ → Point
at x y = corner (pos x) (pos y)

-- counterclockwise from the least corner
abbrev square : ℕ → ℕ → ℕ → ℕ → List Point
square x0 x1 y0 y1 = rectangle (pos x0) (pos x1) (pos y0) (pos y1)

-- clockwise from the least corner
abbrev hole : ℕ → ℕ → ℕ → ℕ → List Point
hole x0 x1 y0 y1 = at x0 y0 ∷ at x0 y1 ∷ at x1 y1 ∷ at x1 y0 ∷ []

-- normalised loops, edges apart, the solid on the left
abbrev demands : List (List Point) → List Bool
demands loops = are_loops loops ∷ are_apart loops ∷ keep_left loops ∷ []

-- ---- plans

u_shaped : is_plan
    ((at 0 0 ∷ at 9 0 ∷ at 9 9 ∷ at 6 9 ∷ at 6 3 ∷ at 3 3 ∷ at 3 9 ∷ at 0 9 ∷ []) ∷ []) ≡ true
unfolding cross dot
u_shaped = refl

-- a room with a hole, and in the hole an island
hole_with_an_island : is_plan (square 0 9 0 9 ∷ hole 2 7 2 7 ∷ square 4 5 4 5 ∷ []) ≡ true
unfolding cross dot
hole_with_an_island = refl

-- slanted, with a slanted hole
triangle_with_a_hole : is_plan
    ((at 0 0 ∷ at 9 0 ∷ at 0 9 ∷ []) ∷ (at 1 1 ∷ at 1 4 ∷ at 4 1 ∷ []) ∷ []) ≡ true
unfolding cross dot
triangle_with_a_hole = refl

-- two rooms side by side, which do not touch
two_squares : is_plan (square 0 4 0 4 ∷ square 5 9 0 4 ∷ []) ≡ true
unfolding cross dot
two_squares = refl

-- ---- no plans

no_loop : demands [] ≡ false ∷ true ∷ true ∷ []
no_loop = refl

-- two edges cross
bow_tie : demands ((at 0 0 ∷ at 4 4 ∷ at 4 0 ∷ at 0 4 ∷ []) ∷ []) ≡ true ∷ false ∷ false ∷ []
unfolding cross dot
bow_tie = refl

-- a corner lies on an edge that is not its own
corner_on_an_edge : demands ((at 0 0 ∷ at 4 0 ∷ at 4 4 ∷ at 2 0 ∷ at 0 4 ∷ []) ∷ [])
    ≡ true ∷ false ∷ true ∷ []
unfolding cross dot
corner_on_an_edge = refl

-- a loop comes back to one of its corners
corner_twice : demands ((at 0 0 ∷ at 4 0 ∷ at 2 2 ∷ at 4 4 ∷ at 0 4 ∷ at 2 2 ∷ []) ∷ [])
    ≡ true ∷ false ∷ true ∷ []
unfolding cross dot
corner_twice = refl

-- two loops share a corner
corner_of_both : demands (square 0 4 0 4 ∷ square 4 8 4 8 ∷ []) ≡ true ∷ false ∷ true ∷ []
unfolding cross dot
corner_of_both = refl

-- two loops share an edge
edge_of_both : demands (square 0 4 0 4 ∷ square 4 8 0 4 ∷ []) ≡ true ∷ false ∷ false ∷ []
unfolding cross dot
edge_of_both = refl

-- and a part of one, with no corner in common
part_of_an_edge_of_both : demands (square 0 4 0 4 ∷ square 4 8 1 3 ∷ [])
    ≡ true ∷ false ∷ false ∷ []
unfolding cross dot
part_of_an_edge_of_both = refl

-- the outer loop runs clockwise
outer_turned : demands (hole 0 9 0 9 ∷ []) ≡ true ∷ true ∷ false ∷ []
unfolding cross dot
outer_turned = refl

-- the hole runs counterclockwise
hole_turned : demands (square 0 9 0 9 ∷ square 3 6 3 6 ∷ []) ≡ true ∷ true ∷ false ∷ []
unfolding cross dot
hole_turned = refl

-- the island runs clockwise
island_turned : demands (square 0 9 0 9 ∷ hole 2 7 2 7 ∷ hole 4 5 4 5 ∷ [])
    ≡ true ∷ true ∷ false ∷ []
unfolding cross dot
island_turned = refl

-- the loop begins at another point than its least
begun_elsewhere : demands ((at 4 0 ∷ at 4 4 ∷ at 0 0 ∷ []) ∷ []) ≡ false ∷ true ∷ true ∷ []
unfolding cross dot
begun_elsewhere = refl
