-- Worked sides, points and regions, and wrong ones that are refused.
use Rattle.std.proofs.Common.{◌≡◌, refl, true, false, ℕ, pos, negsuc, Less, Equal, Greater}
use Rattle.theory_numbers.specs.Arrows.{Arrow, arrow, cross, dot}
use Rattle.theory_numbers.specs.Rationals.{rational}
use Rattle.theory_plane.specs.Sides.{LineSide, line, level, value_on, clearance, clearance_at}
use Rattle.theory_plane.specs.Sides.{is_same_side}
use Rattle.theory_plane.specs.Leads.{leads, order_on, order_past}
use Rattle.theory_plane.specs.Points.{face_point, is_above_side, is_under_side, is_on_side}
use Rattle.theory_plane.specs.Regions.{Region, is_region, is_inside, closures_meet, is_seam}

-- ---- two lines that have one value at one place are told apart

abbrev zero : Arrow
zero = rational (pos 0) (pos 1)

abbrev half : Arrow
half = rational (pos 1) (pos 2)

abbrev one : Arrow
one = rational (pos 1) (pos 1)

abbrev two : Arrow
two = rational (pos 2) (pos 1)

-- v = u
abbrev diagonal : LineSide
diagonal = line (pos 1) (pos 1) (pos 0)

-- it meets the height 0 at u = 0
meets_ground : clearance_at (level (pos 0)) diagonal zero ≡ pos 0
unfolding clearance dot
meets_ground = refl

-- and lies above it at u = 1
clears_ground : clearance_at (level (pos 0)) diagonal one ≡ pos 1
unfolding clearance dot
clears_ground = refl

-- so the two are not one side
not_same : is_same_side (level (pos 0)) diagonal ≡ false
not_same = refl

same : is_same_side diagonal (line (pos 1) (pos 1) (pos 0)) ≡ true
same = refl

-- v = (2u + 1)/3 has the value 2/3 at u = 1/2
value_at_half : value_on (line (pos 3) (pos 2) (pos 1)) half ≡ rational (pos 4) (pos 6)
unfolding value_on
value_at_half = refl

-- the height 3 clears the height 1 by 2, everywhere
levels : clearance (level (pos 1)) (level (pos 3)) ≡ arrow (pos 2) (pos 0)
unfolding clearance
levels = refl

-- ---- which line leads

-- at 0, where they meet, the diagonal leads the height 0 though their values are one there
leads_from_meeting : leads zero (level (pos 0)) diagonal ≡ true
unfolding clearance dot
leads_from_meeting = refl

equal_at_meeting : order_on (level (pos 0)) diagonal zero ≡ Equal
unfolding clearance dot
equal_at_meeting = refl

less_past_meeting : order_past zero (level (pos 0)) diagonal ≡ Less
unfolding clearance dot
less_past_meeting = refl

-- before they meet, at -1, the diagonal is the lower one
greater_before_meeting :
    order_past (rational (negsuc 0) (pos 1)) (level (pos 0)) diagonal ≡ Greater
unfolding clearance dot
greater_before_meeting = refl

-- two records of one line are in no order
one_line : order_past zero diagonal (line (pos 2) (pos 2) (pos 0)) ≡ Equal
unfolding clearance dot
one_line = refl

-- ---- points and the line 2v = u + 3

abbrev slope : LineSide
slope = line (pos 2) (pos 1) (pos 3)

-- (1, 2) is on it, (1, 5/2) above and (1, 3/2) under it
on_slope : is_on_side slope (face_point (pos 1) (pos 2) (pos 1)) ≡ true
on_slope = refl

above_slope : is_above_side slope (face_point (pos 2) (pos 5) (pos 2)) ≡ true
above_slope = refl

under_slope : is_under_side slope (face_point (pos 2) (pos 3) (pos 2)) ≡ true
under_slope = refl

not_above_on_it : is_above_side slope (face_point (pos 1) (pos 2) (pos 1)) ≡ false
not_above_on_it = refl

-- ---- regions

abbrev region : Arrow → Arrow → LineSide → LineSide → Region
region low high lower upper = record { low = low; high = high; lower = lower; upper = upper }

-- a triangle: its sides meet at one end
abbrev triangle : Region
triangle = region zero two (level (pos 0)) diagonal

triangle_is : is_region triangle ≡ true
unfolding cross dot clearance
triangle_is = refl

-- sides that cross are refused, and one side twice, and a region of no width
crossed_sides : is_region (region zero two diagonal (level (pos 1))) ≡ false
unfolding cross dot clearance
crossed_sides = refl

one_side_twice : is_region (region zero two diagonal diagonal) ≡ false
unfolding cross dot clearance
one_side_twice = refl

no_width : is_region (region one one (level (pos 0)) (level (pos 1))) ≡ false
unfolding cross dot clearance
no_width = refl

-- (1, 1/2) lies in the triangle; (1, 1) on its side and (2, 1) on its end do not
inside : is_inside triangle (face_point (pos 2) (pos 1) (pos 2)) ≡ true
unfolding cross
inside = refl

on_side_is_out : is_inside triangle (face_point (pos 1) (pos 1) (pos 1)) ≡ false
unfolding cross
on_side_is_out = refl

on_end_is_out : is_inside triangle (face_point (pos 2) (pos 1) (pos 1)) ≡ false
unfolding cross
on_end_is_out = refl

-- ---- closures

-- the rectangle [from, to] x [bottom, top]
abbrev block : (from to bottom top : ℕ) → Region
block from to bottom top =
    region (rational (pos from) (pos 1)) (rational (pos to) (pos 1)) (level (pos bottom))
    (level (pos top))

-- squares that share a side have a common closed point, those a unit apart have none
stacked : closures_meet (block 0 1 0 1) (block 0 1 1 2) half ≡ true
unfolding cross dot clearance
stacked = refl

unit_apart : closures_meet (block 0 1 0 1) (block 0 1 2 3) half ≡ false
unfolding cross dot clearance
unit_apart = refl

-- beyond the end of one of them there is none
beyond_end : closures_meet (block 0 1 0 1) (block 0 2 0 1) two ≡ false
unfolding cross dot clearance
beyond_end = refl

-- ---- seams

-- two halves of one rectangle share a whole side
seam : is_seam (block 0 1 0 1) (block 1 2 0 1) ≡ true
unfolding cross dot clearance
seam = refl

-- of different heights they do not
no_seam : is_seam (block 0 1 0 1) (block 1 2 0 2) ≡ false
unfolding cross dot clearance
no_seam = refl

-- nor do two triangles that meet in a corner: the shared side has no length
no_seam_at_corner
    : is_seam (region (rational (negsuc 0) (pos 1)) zero diagonal (level (pos 0)))
    (region zero one diagonal (level (pos 0)))
    ≡ false
unfolding cross dot clearance
no_seam_at_corner = refl
