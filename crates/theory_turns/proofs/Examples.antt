-- Worked turns.

use Rattle.std.proofs.Common.{pos, ◌≡◌, false, refl}
use Rattle.std.specs.Prelude.{neg_ℤ}
use Rattle.sb_fraction.specs.Spots.{Vector, vector}
use Rattle.sb_fraction.specs.Directions.{axis_x, axis_y, axis_z}
use Rattle.theory_turns.specs.Turns.{Quarter, is_quarter, y_of, turned_by, then_of, back_of}

abbrev turn : Vector → Vector → Quarter
turn x z = record { x = x; z = z }

-- a quarter turn to the left about z
abbrev left : Quarter
left = turn axis_y axis_z

-- x goes up
abbrev raised : Quarter
raised = turn axis_z (vector (neg_ℤ (pos 1)) (pos 0) (pos 0))

-- to the left, local x is world y, and local y is world -x
y_to_the_left : y_of left ≡ vector (neg_ℤ (pos 1)) (pos 0) (pos 0)
y_to_the_left = refl

point_to_the_left : turned_by left (vector (pos 2) (pos 3) (pos 5)) ≡ vector (neg_ℤ (pos 3)) (pos 2) (pos 5)
point_to_the_left = refl

-- one after another knows an order: x to the left and then raised, and the other way round
left_then_raised : then_of left raised ≡ turn axis_y (vector (neg_ℤ (pos 1)) (pos 0) (pos 0))
left_then_raised = refl

raised_then_left : then_of raised left ≡ turn axis_z (vector (pos 0) (neg_ℤ (pos 1)) (pos 0))
raised_then_left = refl

-- the way back is to the right
back_to_the_right : back_of left ≡ turn (vector (pos 0) (neg_ℤ (pos 1)) (pos 0)) axis_z
back_to_the_right = refl

-- parallel axes and slanted directions are no turn
not_parallel : is_quarter axis_x (vector (neg_ℤ (pos 1)) (pos 0) (pos 0)) ≡ false
not_parallel = refl

not_slanted : is_quarter (vector (pos 1) (pos 1) (pos 0)) axis_z ≡ false
not_slanted = refl
