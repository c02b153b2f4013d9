-- A signed axis is a vector of length 1, so a turn is two upright axes.

use Rattle.std.proofs.Common.{ℕ, ℤ, pos, zero, suc, ◌+◌, ◌*◌, ◌≡◌, ◌≤◌, ◌*ℤ◌, true, IsTrue, arith}
use Rattle.std.proofs.Common.{refl, ◌&&◌}
use Rattle.std.specs.Prelude.{unsigned_abs}
use Rattle.std.specs.Ordering.{int_eq}
use Rattle.std.proofs.lemmas.Int.{ints, unsigned_abs-mul}
use Rattle.std.proofs.lemmas.Bool.{and_parts, and_from, eqb-true, eq-eqb}
use Rattle.std.proofs.lemmas.Bool.Decides.{Decides-int_eq}
use Rattle.theory_numbers.proofs.Products.{weak_square}
use Rattle.sb_fraction.specs.Spots.{Vector, inner}
use Rattle.theory_turns.specs.Turns.{Quarter, is_signed_axis, is_quarter}
use Rattle.theory_turns.proofs.UprightTriples.{IsUpright}

-- ---- sizes

square_of_bit : (n : ℕ) → n ≤ 1 → n * n ≡ n
square_of_bit zero small = refl
square_of_bit (suc zero) small = refl
square_of_bit (suc (suc n)) small = absurd (omega (arith, small))

square_is_more : (n : ℕ) → n ≤ n * n
square_is_more zero = omega arith
square_is_more (suc n) = omega arith

-- a square is that of the size
square_by_size : (a : ℤ) → a *ℤ a ≡ pos (unsigned_abs a * unsigned_abs a)
square_by_size a = omega (arith, ints, unsigned_abs-mul a a, weak_square a)

-- three sizes whose sum is 1, and three whose squares have the sum 1
squares_of_one : (p q r : ℕ) → (p + q) + r ≡ 1 → (p * p + q * q) + r * r ≡ 1
squares_of_one p q r one =
    omega (
      arith,
      one,
      square_of_bit p (omega (arith, one)),
      square_of_bit q (omega (arith, one)),
      square_of_bit r (omega (arith, one)),
    )

one_of_squares : (p q r : ℕ) → (p * p + q * q) + r * r ≡ 1 → (p + q) + r ≡ 1
one_of_squares p q r one =
    let bit_p = square_of_bit p (omega (arith, one, square_is_more p)) in
    let bit_q = square_of_bit q (omega (arith, one, square_is_more q)) in
    let bit_r = square_of_bit r (omega (arith, one, square_is_more r)) in
    omega (arith, one, bit_p, bit_q, bit_r)

-- ---- axes

-- a signed axis has length 1
pub length_of_axis : (a : Vector) → is_signed_axis a ≡ true → inner a a ≡ pos 1
length_of_axis a axis =
    let sum = eqb-true (unsigned_abs a.x + unsigned_abs a.y + unsigned_abs a.z) 1 axis in
    let squares = squares_of_one (unsigned_abs a.x) (unsigned_abs a.y) (unsigned_abs a.z) sum in
    omega (arith, ints, squares, square_by_size a.x, square_by_size a.y, square_by_size a.z)

-- and what has length 1 is a signed axis
pub axis_of_length : (a : Vector) → inner a a ≡ pos 1 → is_signed_axis a ≡ true
axis_of_length a length =
    let squares : (unsigned_abs a.x * unsigned_abs a.x + unsigned_abs a.y * unsigned_abs a.y)
    + unsigned_abs a.z * unsigned_abs a.z ≡ 1
    = omega (arith, ints, length, square_by_size a.x, square_by_size a.y, square_by_size a.z) in
    eq-eqb (unsigned_abs a.x + unsigned_abs a.y + unsigned_abs a.z) 1
    (one_of_squares (unsigned_abs a.x) (unsigned_abs a.y) (unsigned_abs a.z) squares)

-- the coordinates of a signed axis are at most 1 in size
pub record AreUnits (a : Vector) : Type 0 where
  pub of_x : unsigned_abs a.x ≤ 1
  pub of_y : unsigned_abs a.y ≤ 1
  pub of_z : unsigned_abs a.z ≤ 1

pub units_of_axis : (a : Vector) → is_signed_axis a ≡ true → AreUnits a
units_of_axis a axis =
    let sum = eqb-true (unsigned_abs a.x + unsigned_abs a.y + unsigned_abs a.z) 1 axis in
    record {
      of_x = omega (arith, sum);
      of_y = omega (arith, sum);
      of_z = omega (arith, sum);
    }

-- ---- turns

-- the two directions of a turn are upright
pub upright_of_quarter : (q : Quarter) → IsTrue (is_quarter q.x q.z) → IsUpright q
upright_of_quarter q quarter =
    let right = int_eq (inner q.x q.z) (pos 0) in
    let parts = and_parts (is_signed_axis q.x && is_signed_axis q.z) right quarter in
    let axes = and_parts (is_signed_axis q.x) (is_signed_axis q.z) parts.0 in
    record {
      xx = length_of_axis q.x axes.0;
      zz = length_of_axis q.z axes.1;
      xz = (Decides-int_eq (inner q.x q.z) (pos 0)).0 parts.1;
    }

-- and upright directions are a turn
pub quarter_of_upright : (q : Quarter) → IsUpright q → IsTrue (is_quarter q.x q.z)
quarter_of_upright q up =
    and_from (is_signed_axis q.x && is_signed_axis q.z) (int_eq (inner q.x q.z) (pos 0))
    (and_from (is_signed_axis q.x) (is_signed_axis q.z) (axis_of_length q.x up.xx)
    (axis_of_length q.z up.zz))
    ((Decides-int_eq (inner q.x q.z) (pos 0)).1 up.xz)
