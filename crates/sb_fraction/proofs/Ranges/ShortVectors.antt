-- Plan points, directions and what points the other way are short vectors.

use Rattle.std.proofs.Common.{◌≡◌, ℤ, neg_ℤ, true, ◌&&◌, nat_le, unsigned_abs, IsTrue, arith}
use Rattle.std.proofs.Common.{le_trans, lit≤}
use Rattle.std.proofs.lemmas.Bool.{and_from, and_parts, le-leb, leb-true}
use Rattle.std.proofs.lemmas.Int.{to_z-of_z, ints}
use Rattle.theory_numbers.specs.Divisors.{are_coprime}
use Rattle.theory_numbers.specs.Arrows.{arrow}
use Rattle.sb_fraction.specs.Plane.{is_short, is_plan_point, is_coordinate, is_direction}
use Rattle.sb_fraction.specs.Plane.{is_forward, greatest_coordinate, longest_step}

-- what is at most 500,000 in size is at most 10^6 in size
wider : (z : ℤ) → is_coordinate z ≡ true → nat_le (unsigned_abs z) longest_step ≡ true
wider z answer =
    le-leb _ _ (le_trans (leb-true (unsigned_abs z) greatest_coordinate answer) (lit≤ tt))

-- a plan point is a short way from the origin
pub place_is_short : (x y : ℤ) → IsTrue (is_plan_point (record { x = x; y = y }))
    → IsTrue (is_short (arrow x y))
place_is_short x y in_range =
    let parts = and_parts (is_coordinate x) (is_coordinate y) in_range in
    and_from _ _ (wider x parts.0) (wider y parts.1)

-- a direction is short
pub direction_is_short : (x y : ℤ) → IsTrue (is_direction x y) → IsTrue (is_short (arrow x y))
direction_is_short x y direction =
    let last = nat_le (unsigned_abs y) longest_step in
    let middle = nat_le (unsigned_abs x) longest_step in
    let front = are_coprime (unsigned_abs x) (unsigned_abs y) && is_forward x y in
    let whole = and_parts (front && middle) last direction in
    let half = and_parts front middle whole.0 in
    and_from middle last half.1 whole.1

same_size : (z : ℤ) → unsigned_abs (neg_ℤ z) ≡ unsigned_abs z
same_size z = omega (arith, ints)

-- what points the other way is as short
pub opposite_is_short : (x y : ℤ) → IsTrue (is_short (arrow x y))
    → IsTrue (is_short (arrow (neg_ℤ x) (neg_ℤ y)))
opposite_is_short x y short = rw (same_size x, same_size y) short

-- for what makes a short vector of another
pub ruleset short_vectors = (to_z-of_z, place_is_short, direction_is_short, opposite_is_short)
