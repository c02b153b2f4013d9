-- The step, the direction, the normal and the line of an edge.

use Rattle.std.specs.Prelude.{ℤ, pos, neg_ℤ, ◌-ℤ◌, ◌*ℤ◌, Bool, unsigned_abs, if◌then◌else◌}
use Rattle.theory_numbers.specs.Divisors.{greatest_divisor}
use Rattle.theory_numbers.specs.Fractions.{divided}
use Rattle.sb_fraction.specs.Plane.{is_forward}
use Rattle.sb_fraction.specs.Spots.{Vector, vector, opposite}
use Rattle.sb_fraction.specs.Edges.{Edge}

abbrev pub axis_x : Vector
axis_x = vector (pos 1) (pos 0) (pos 0)

abbrev pub axis_y : Vector
axis_y = vector (pos 0) (pos 1) (pos 0)

abbrev pub axis_z : Vector
axis_z = vector (pos 0) (pos 0) (pos 1)

-- the step of an edge: from a to b without common divisor
unfoldable pub step : Edge → Vector
step e =
    let x = e.b.x -ℤ e.a.x in
    let y = e.b.y -ℤ e.a.y in
    let common = greatest_divisor (unsigned_abs x) (unsigned_abs y) in
    vector (divided x common) (divided y common) (pos 0)

-- the edge runs along its direction, and not against it
unfoldable pub runs_along : Edge → Bool
runs_along e = is_forward (step e).x (step e).y

-- the direction of an edge: its step or the opposite of it, whichever has x > 0 or is (0, 1)
unfoldable pub direction_of : Edge → Vector
direction_of e = if runs_along e then step e else opposite (step e)

-- the outward normal of the face over an edge, which has the solid on its left: (dy, -dx, 0) where
-- it runs along its direction, (-dy, dx, 0) where it runs against it
unfoldable pub normal_over : Edge → Vector
normal_over e = vector (step e).y (neg_ℤ (step e).x) (pos 0)

-- the offset p·(-dy, dx) of the line that an edge lies on
unfoldable pub offset_of : Edge → ℤ
offset_of e = (e.a.y *ℤ (direction_of e).x) -ℤ (e.a.x *ℤ (direction_of e).y)
