-- The turns by quarters: where they take the local axes, and with them each vector.

use Rattle.std.specs.Prelude.{ℤ, ◌+◌, pos, ◌+ℤ◌, ◌-ℤ◌, ◌*ℤ◌, Bool, ◌&&◌, nat_eq, unsigned_abs}
use Rattle.std.specs.Prelude.{if◌then◌else◌, Option, Some, None}
use Rattle.std.specs.Ordering.{int_eq}
use Rattle.sb_fraction.specs.Spots.{Vector, vector, inner}

-- a turn takes the local x to `x`, the local z to `z` and the local y to `z × x`
pub record Quarter : Type 0 where
  pub x : Vector
  pub z : Vector

-- one coordinate is 1 or -1, and the others are 0
abbrev pub is_signed_axis : Vector → Bool
is_signed_axis a = nat_eq (unsigned_abs a.x + unsigned_abs a.y + unsigned_abs a.z) 1

-- two signed axes at right angles
abbrev pub is_quarter : Vector → Vector → Bool
is_quarter x z = is_signed_axis x && is_signed_axis z && int_eq (inner x z) (pos 0)

-- the turn to these two, where they are signed axes at right angles
abbrev pub turn_of : Vector → Vector → Option Quarter
turn_of x z = if is_quarter x z then Some (record { x = x; z = z }) else None

-- the vector at right angles to both, as the third axis stands to the first two
abbrev pub cross_of : Vector → Vector → Vector
cross_of a b =
    vector
    ((a.y *ℤ b.z) -ℤ (a.z *ℤ b.y))
    ((a.z *ℤ b.x) -ℤ (a.x *ℤ b.z))
    ((a.x *ℤ b.y) -ℤ (a.y *ℤ b.x))

-- where a turn takes the local y
abbrev pub y_of : Quarter → Vector
y_of q = cross_of q.z q.x

-- so many times three numbers, together
abbrev pub mixed : Vector → ℤ → ℤ → ℤ → ℤ
mixed v a b c = ((a *ℤ v.x) +ℤ (b *ℤ v.y)) +ℤ (c *ℤ v.z)

-- three vectors, each so many times as the first vector has it, together
abbrev pub mixture_of : Vector → Vector → Vector → Vector → Vector
mixture_of v x y z =
    vector (mixed v x.x y.x z.x) (mixed v x.y y.y z.y) (mixed v x.z y.z z.z)

-- where a turn takes a vector: the local axes, each so many times as the vector has it
abbrev pub turned_by : Quarter → Vector → Vector
turned_by q v = mixture_of v q.x (y_of q) q.z

-- the second turn after the first
abbrev pub then_of : Quarter → Quarter → Quarter
then_of first second =
    record { x = turned_by second first.x; z = turned_by second first.z }

-- the turn back: the local x of it is how far each axis of the turn goes along x
abbrev pub back_of : Quarter → Quarter
back_of q =
    record {
      x = vector q.x.x (y_of q).x q.z.x;
      z = vector q.x.z (y_of q).z q.z.z;
    }
