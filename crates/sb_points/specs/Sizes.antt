-- How large the numbers may be that say where a point lies.

use Rattle.std.specs.Prelude.{ℕ, ◌*◌, ◌^◌, Bool, ◌&&◌, nat_le, unsigned_abs}
use Rattle.theory_numbers.specs.Arrows.{Arrow}

-- the greatest size of a coordinate of a way from a rational point to a plan point
abbrev pub greatest_seen : ℕ
greatest_seen = 2 * 10 ^ 18

-- the greatest size of a product of two such
abbrev pub greatest_half : ℕ
greatest_half = 4 * 10 ^ 36

-- both coordinates are within that bound
abbrev pub is_near : Arrow → Bool
is_near a = nat_le (unsigned_abs a.x) greatest_seen && nat_le (unsigned_abs a.y) greatest_seen
