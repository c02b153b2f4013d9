-- Worked edges: where they meet, their lines over a direction, and which leads.

use Rattle.std.proofs.Common.{◌≡◌, refl, true, false, [], ◌∷◌, ℤ}
use Rattle.std.proofs.Common.{pos, negsuc, map, Bool, ◌^◌, ◌*◌, ◌+◌}
use Rattle.std.proofs.Common.{Less, Equal, Greater}
use Rattle.theory_numbers.specs.Arrows.{Arrow, arrow, cross, dot}
use Rattle.theory_numbers.specs.Rationals.{rational}
use Rattle.theory_plane.specs.Sides.{line, value_on, clearance}
use Rattle.theory_plane.specs.Leads.{order_on, order_past}
use Rattle.sb_fraction.specs.declared.point.Point.{Point}
use Rattle.sb_fraction.specs.Spots.{spot, spot_at}
use Rattle.sb_fraction.specs.Edges.{Edge, edge, is_on, is_within, side_of, are_collinear}
use Rattle.sb_fraction.specs.Crossings.{meeting_of, are_parallel}
use Rattle.sb_fraction.specs.Numbers.{ratio}
use Rattle.sb_fraction.specs.Bounds.{is_abscissa_size, is_crossing_size}
use Rattle.sb_fraction.specs.Lines.{line_over, reaches_past, is_break, span_along}

abbrev point : ℤ → ℤ → Point
point x y = record { x = x; y = y }

abbrev from_to : ℤ → ℤ → ℤ → ℤ → Edge
from_to ax ay bx by = edge (point ax ay) (point bx by)

-- ---- where edges meet

abbrev up_long : Edge
up_long = from_to (negsuc 499999) (negsuc 499999) (pos 500000) (pos 499999)

abbrev down_long : Edge
down_long = from_to (negsuc 499999) (pos 500000) (pos 499999) (negsuc 499999)

-- the largest meeting point: it is not in lowest terms
largest_meeting :
    meeting_of up_long down_long
    ≡ spot (negsuc 499999) (negsuc 999999499999) (pos 0) (pos 1999998000001)
unfolding cross
largest_meeting = refl

largest_is_in_bound : is_crossing_size (meeting_of up_long down_long) ≡ true
unfolding cross
largest_is_in_bound = refl

abbrev up : Edge
up = from_to (pos 0) (pos 0) (pos 10) (pos 10)

abbrev down : Edge
down = from_to (pos 0) (pos 10) (pos 10) (pos 0)

-- two diagonals meet in the middle, with a positive denominator in either order
middle : meeting_of up down ≡ spot (pos 1000) (pos 1000) (pos 0) (pos 200)
unfolding cross
middle = refl

middle_back : meeting_of down up ≡ spot (pos 1000) (pos 1000) (pos 0) (pos 200)
unfolding cross
middle_back = refl

-- an edge that ends on another one has a point in common with it, which is within that one alone
abbrev foot : Edge
foot = from_to (pos 5) (pos 0) (pos 5) (pos 5)

at_a_foot :
    map (λ e. is_on (meeting_of up foot) e) (up ∷ foot ∷ []) ≡ true ∷ true ∷ []
unfolding cross dot
at_a_foot = refl

within_one_alone :
    map (λ e. is_within (meeting_of up foot) e) (up ∷ foot ∷ []) ≡ true ∷ false ∷ []
unfolding cross dot
within_one_alone = refl

-- edges that overlap are parallel and collinear, edges side by side are parallel alone
overlapping : map (λ e. are_parallel up e)
    (from_to (pos 5) (pos 5) (pos 20) (pos 20) ∷ from_to (pos 0) (pos 1) (pos 9) (pos 10) ∷ [])
    ≡ true ∷ true ∷ []
unfolding cross
overlapping = refl

collinear_alone : map (λ e. are_collinear up e)
    (from_to (pos 5) (pos 5) (pos 20) (pos 20) ∷ from_to (pos 0) (pos 1) (pos 9) (pos 10) ∷ [])
    ≡ true ∷ false ∷ []
unfolding cross
collinear_alone = refl

-- right of an upright edge that runs up, on it and left of it
sides : map (λ x. side_of (from_to (pos 0) (pos 0) (pos 0) (pos 10)) (spot_at (point x (pos 3))))
    (pos 1 ∷ pos 0 ∷ negsuc 0 ∷ []) ≡ Less ∷ Equal ∷ Greater ∷ []
unfolding cross
sides = refl

-- ---- lines over the direction (1, 0)

abbrev along_x : Arrow
along_x = arrow (pos 1) (pos 0)

abbrev at : ℤ → Arrow
at u = rational u (pos 1)

-- whichever way the edge runs
one_line : map (λ e. line_over along_x e)
    (from_to (pos 0) (pos 0) (pos 10) (pos 5) ∷ from_to (pos 10) (pos 5) (pos 0) (pos 0) ∷ [])
    ≡ line (pos 10) (pos 5) (pos 0) ∷ line (pos 10) (pos 5) (pos 0) ∷ []
unfolding cross dot span_along
one_line = refl

-- an edge reaches past its first abscissa, not past its last; an upright one past none
reached : map (λ u. reaches_past along_x (at u) up)
    (pos 0 ∷ pos 9 ∷ pos 10 ∷ []) ≡ true ∷ true ∷ false ∷ []
unfolding cross
reached = refl

upright_reaches_nothing : reaches_past along_x (at (pos 5)) foot ≡ false
unfolding cross
upright_reaches_nothing = refl

-- at 0 the rising diagonal is the lower one; at 5, where they cross, it leads from then on
order_at_0 : order_past (at (pos 0)) (line_over along_x up) (line_over along_x down) ≡ Less
unfolding cross dot span_along clearance
order_at_0 = refl

order_at_5 : order_past (at (pos 5)) (line_over along_x up) (line_over along_x down) ≡ Greater
unfolding cross dot span_along clearance
order_at_5 = refl

-- at the crossing itself the two have one value
equal_at_5 : order_on (line_over along_x up) (line_over along_x down) (at (pos 5)) ≡ Equal
unfolding cross dot span_along clearance
equal_at_5 = refl

-- where they end or cross
breaks : map (λ u. is_break along_x (at u) up down) (pos 0 ∷ pos 3 ∷ pos 5 ∷ pos 10 ∷ [])
    ≡ true ∷ false ∷ true ∷ true ∷ []
unfolding cross dot
breaks = refl

-- ---- the greatest abscissae

greatest_abscissae :
    map (λ n. is_abscissa_size (ratio (pos n) (pos 1))) ((2 * 10 ^ 24) ∷ (2 * 10 ^ 24 + 1) ∷ [])
    ≡ true ∷ false ∷ []
greatest_abscissae = refl
