-- Worked loops: what is dropped, where the loop begins, and which of the three answers loops get.

use Rattle.std.proofs.Common.{◌≡◌, refl, ℕ, true, false, Bool, List, [], ◌∷◌, pos, arith}
use Rattle.std.proofs.lemmas.Int.{ints}
use Rattle.theory_numbers.specs.Arrows.{cross, dot}
use Rattle.sb_fraction.specs.declared.point.Point.{Point}
use Rattle.theory_plans.specs.Rectangles.{corner}
use Rattle.theory_loops.specs.Normal.{drop_first, dropped, normal_loop}
use Rattle.theory_loops.specs.Orders.{IsLevelAt, Becomes, IsSameLoop}
use Rattle.theory_loops.specs.Orders.Becomes.{stays, begins_next, loses_first}
use Rattle.theory_loops.specs.Answers.{are_flat, are_knotted, plan_of}

abbrev at : ℕ → ℕ → Point
at x y = corner (pos x) (pos y)

-- flat, knotted
abbrev refusals : List (List Point) → List Bool
refusals loops = are_flat loops ∷ are_knotted loops ∷ []

-- ---- one loop

-- the first of two points that may go is dropped, and one only
one_at_a_time : drop_first (at 0 0 ∷ at 3 0 ∷ at 6 0 ∷ at 9 0 ∷ at 0 9 ∷ [])
    ≡ at 0 0 ∷ at 6 0 ∷ at 9 0 ∷ at 0 9 ∷ []
one_at_a_time = refl

-- a point on an edge, and a doubled point at the joint
doubled_at_the_joint : normal_loop (at 0 0 ∷ at 5 0 ∷ at 10 0 ∷ at 10 10 ∷ at 0 10 ∷ at 0 10 ∷ [])
    ≡ at 0 0 ∷ at 10 0 ∷ at 10 10 ∷ at 0 10 ∷ []
doubled_at_the_joint = refl

-- the first point given again at the end
closed_by_hand : normal_loop (at 0 0 ∷ at 9 0 ∷ at 0 9 ∷ at 0 0 ∷ [])
    ≡ at 0 0 ∷ at 9 0 ∷ at 0 9 ∷ []
closed_by_hand = refl

-- a loop that begins on an edge: its first point goes
on_an_edge_at_the_joint : normal_loop (at 4 0 ∷ at 9 0 ∷ at 0 9 ∷ at 0 0 ∷ [])
    ≡ at 0 0 ∷ at 9 0 ∷ at 0 9 ∷ []
on_an_edge_at_the_joint = refl

-- a spike: its tip goes, then one of the two equal points at its foot
spike : normal_loop (at 0 0 ∷ at 9 0 ∷ at 9 9 ∷ at 12 12 ∷ at 9 9 ∷ at 0 9 ∷ [])
    ≡ at 0 0 ∷ at 9 0 ∷ at 9 9 ∷ at 0 9 ∷ []
spike = refl

-- a spike on an edge, which leaves no corner behind
spike_on_an_edge : normal_loop (at 0 0 ∷ at 4 0 ∷ at 4 7 ∷ at 4 0 ∷ at 9 0 ∷ at 0 9 ∷ [])
    ≡ at 0 0 ∷ at 9 0 ∷ at 0 9 ∷ []
spike_on_an_edge = refl

-- there and back on one line: nothing is left
all_one_line : dropped (at 0 0 ∷ at 2 2 ∷ at 5 5 ∷ at 3 3 ∷ []) ≡ []
all_one_line = refl

-- so it is with a way there and back round a corner
there_and_back_round_a_corner : dropped (at 0 0 ∷ at 5 0 ∷ at 5 5 ∷ at 5 0 ∷ []) ≡ []
there_and_back_round_a_corner = refl

-- the least is that of the least x, and of these of the least y
least_first : normal_loop (at 5 0 ∷ at 9 5 ∷ at 0 8 ∷ at 0 2 ∷ [])
    ≡ at 0 2 ∷ at 5 0 ∷ at 9 5 ∷ at 0 8 ∷ []
least_first = refl

-- ---- in another order

-- of two points within an edge the second may go first: the loop is begun at it, and stays there
second_before_first : Becomes (at 0 0 ∷ at 3 0 ∷ at 6 0 ∷ at 9 0 ∷ at 0 9 ∷ [])
    (at 9 0 ∷ at 0 9 ∷ at 0 0 ∷ [])
second_before_first =
    begins_next (begins_next (loses_first refl
    (begins_next (begins_next (begins_next (loses_first refl stays))))))

-- it is the normal form, read from another point
read_from_another :
    IsSameLoop (at 9 0 ∷ at 0 9 ∷ at 0 0 ∷ [])
    (normal_loop (at 0 0 ∷ at 3 0 ∷ at 6 0 ∷ at 9 0 ∷ at 0 9 ∷ []))
read_from_another =
    record { front = at 9 0 ∷ at 0 9 ∷ []; back = at 0 0 ∷ []; one = refl; other = refl }

-- a corner may not go
corner_stays : IsLevelAt (at 9 0) (at 0 9 ∷ at 0 0 ∷ []) → ⊥
corner_stays level = absurd (omega (arith, ints, level))

-- ---- plans

abbrev square_at_4 : List Point
square_at_4 = at 4 4 ∷ at 5 4 ∷ at 5 5 ∷ at 4 5 ∷ []

abbrev square_at_2 : List Point
square_at_2 = at 2 2 ∷ at 7 2 ∷ at 7 7 ∷ at 2 7 ∷ []

abbrev square_at_0 : List Point
square_at_0 = at 0 0 ∷ at 9 0 ∷ at 9 9 ∷ at 0 9 ∷ []

-- a hole, and an island in the hole: the hole is turned round, and the order kept
island_in_a_hole : plan_of (square_at_0 ∷ square_at_2 ∷ square_at_4 ∷ [])
    ≡ square_at_0 ∷ (at 2 2 ∷ at 2 7 ∷ at 7 7 ∷ at 7 2 ∷ []) ∷ square_at_4 ∷ []
unfolding cross
island_in_a_hole = refl

-- with the hole first it is still the hole that is turned
hole_first : plan_of (square_at_2 ∷ square_at_0 ∷ [])
    ≡ (at 2 2 ∷ at 2 7 ∷ at 7 7 ∷ at 7 2 ∷ []) ∷ square_at_0 ∷ []
unfolding cross
hole_first = refl

neither_flat_nor_knotted : refusals (square_at_0 ∷ square_at_2 ∷ square_at_4 ∷ [])
    ≡ false ∷ false ∷ []
unfolding cross dot
neither_flat_nor_knotted = refl

clockwise : plan_of ((at 9 9 ∷ at 9 0 ∷ at 0 0 ∷ at 0 9 ∷ []) ∷ []) ≡ square_at_0 ∷ []
unfolding cross
clockwise = refl

-- two rooms side by side, which do not touch
side_by_side : plan_of (square_at_4 ∷ (at 8 4 ∷ at 8 5 ∷ at 7 5 ∷ at 7 4 ∷ []) ∷ [])
    ≡ square_at_4 ∷ (at 7 4 ∷ at 8 4 ∷ at 8 5 ∷ at 7 5 ∷ []) ∷ []
unfolding cross
side_by_side = refl

-- ---- refusals

no_loop : refusals [] ≡ true ∷ false ∷ []
no_loop = refl

one_loop_on_a_line : refusals (square_at_0 ∷ (at 2 2 ∷ at 5 5 ∷ at 3 3 ∷ []) ∷ [])
    ≡ true ∷ false ∷ []
one_loop_on_a_line = refl

-- one loop is flat and two cross: flat is answered
flat_before_knotted :
    refusals (square_at_0 ∷ (at 5 5 ∷ at 20 5 ∷ at 20 6 ∷ at 5 6 ∷ []) ∷ (at 1 1 ∷ at 2 2 ∷ []) ∷ [])
    ≡ true ∷ false ∷ []
flat_before_knotted = refl

bow_tie : refusals ((at 0 0 ∷ at 10 10 ∷ at 10 0 ∷ at 0 10 ∷ []) ∷ []) ≡ false ∷ true ∷ []
unfolding cross dot
bow_tie = refl

-- two loops with one corner in common
touch_at_a_point :
    refusals (square_at_0 ∷ (at 9 9 ∷ at 12 9 ∷ at 12 12 ∷ at 9 12 ∷ []) ∷ []) ≡ false ∷ true ∷ []
unfolding cross dot
touch_at_a_point = refl

-- a corner of one on an edge of the other
corner_on_an_edge :
    refusals (square_at_0 ∷ (at 9 5 ∷ at 12 4 ∷ at 12 6 ∷ []) ∷ []) ≡ false ∷ true ∷ []
unfolding cross dot
corner_on_an_edge = refl

touch_along_an_edge :
    refusals (square_at_0 ∷ (at 9 2 ∷ at 12 2 ∷ at 12 7 ∷ at 9 7 ∷ []) ∷ []) ≡ false ∷ true ∷ []
unfolding cross dot
touch_along_an_edge = refl

loops_cross :
    refusals (square_at_0 ∷ (at 5 5 ∷ at 12 5 ∷ at 12 6 ∷ at 5 6 ∷ []) ∷ []) ≡ false ∷ true ∷ []
unfolding cross dot
loops_cross = refl

-- one loop given twice
same_loop_twice : refusals (square_at_4 ∷ square_at_4 ∷ []) ≡ false ∷ true ∷ []
unfolding cross dot
same_loop_twice = refl

-- a loop that comes back to its least point keeps it twice, and is knotted
least_point_twice :
    refusals ((at 0 0 ∷ at 9 0 ∷ at 9 3 ∷ at 0 0 ∷ at 3 9 ∷ at 0 9 ∷ []) ∷ []) ≡ false ∷ true ∷ []
unfolding cross dot
least_point_twice = refl
