-- The numbers of spans fit 128 bits: nanometres of coordinates, and what goes along a signed axis.

use Rattle.std.proofs.Common.{◌≡◌, refl, arith, ℕ, ℤ, pos, neg_ℤ, ◌+◌, ◌*◌, ◌/◌, ◌^◌, ◌≤◌}
use Rattle.std.proofs.Common.{Bool, true, false, ◌*ℤ◌, ◌-ℤ◌, ◌<ℤ◌, unsigned_abs, ◌≤ℤ◌, IsTrue, ◌≢◌, lit≤, mul-le-mul, nat_le, int_lt}
use Rattle.std.proofs.Math.Nat.{div-le_of_le-mul}
use Rattle.std.proofs.lemmas.Bool.{and_parts, eqb-true, leb-true}
use Rattle.std.proofs.lemmas.Int.{ints, to_z-of_z, unsigned_abs-mul}
use Rattle.theory_numbers.specs.Fractions.{Ratio, is_lowest}
use Rattle.theory_numbers.specs.Tests.{is_negative}
use Rattle.theory_numbers.specs.Divisors.{are_coprime}
use Rattle.theory_numbers.proofs.Signs.{less_from}
use Rattle.theory_numbers.proofs.Shapes.{var, num, times, equal}
use Rattle.theory_turns.specs.Turns.{is_signed_axis}
use Rattle.sb_fraction.specs.Bounds.{is_fraction, is_in_bounds, greatest_num, greatest_den}
use Rattle.sb_fraction.specs.Spots.{Vector, inner}
use Rattle.sb_fixed.specs.Decimals.{signed}
use Rattle.sb_fixed.specs.Rounding.{rounded, less, scaled}
use Rattle.sb_model.specs.Building.{greatest_shift}
use Rattle.sb_ifc_out.specs.InTheSpace.{nanometres}
use Rattle.sb_ifc_out.specs.Steps.{greatest_span}

-- ---- nanometres

size_of_signed : (b : Bool) (n : ℕ) → unsigned_abs (signed b n) ≡ n
size_of_signed true n = omega (arith, ints)
size_of_signed false n = refl

-- a quotient that is rounded is at most one more than its numerator
quotient_size : (n d most : ℕ) → n ≤ most → 1 ≤ d → (2 * n + d) / (2 * d) ≤ most + 1
quotient_size n d most small some =
    let more : 1 * most ≤ d * most = mul-le-mul some (omega arith) in
    let ring : 2 * d * (most + 1) ≡ 2 * (d * most) + 2 * d = omega arith in
    div-le_of_le-mul (2 * d) (omega (arith, small, more, ring))

rounded_size : (f : Ratio) (most : ℕ) → unsigned_abs f.num ≤ most → 1 ≤ unsigned_abs f.den
    → unsigned_abs (rounded f) ≤ most + 1
unfolding rounded
rounded_size f most small some =
    rw (size_of_signed (is_negative f.num) ((2 * unsigned_abs f.num + unsigned_abs f.den) / (2 * unsigned_abs f.den)))
    (quotient_size (unsigned_abs f.num) (unsigned_abs f.den) most small some)

product_size : (a b : ℤ) (m n : ℕ) → unsigned_abs a ≤ m → unsigned_abs b ≤ n
    → unsigned_abs (a *ℤ b) ≤ m * n
product_size a b m n a_in b_in = rw unsigned_abs-mul (mul-le-mul a_in b_in)

difference_size : (a b : ℤ) (m n : ℕ) → unsigned_abs a ≤ m → unsigned_abs b ≤ n
    → unsigned_abs (a -ℤ b) ≤ m + n
difference_size a b m n a_in b_in = omega (arith, ints, a_in, b_in)

-- the numerator and the denominator of a fraction
fraction_parts : (f : Ratio) → IsTrue (is_fraction f)
    → (unsigned_abs f.num ≤ greatest_num) × ((unsigned_abs f.den ≤ greatest_den) × (1 ≤ unsigned_abs f.den))
fraction_parts f is =
    let both = and_parts (is_lowest f) (is_in_bounds f) is in
    let sizes = and_parts (nat_le (unsigned_abs f.num) greatest_num)
    (nat_le (unsigned_abs f.den) greatest_den) both.1 in
    let lowest = and_parts (int_lt (pos 0) f.den)
    (are_coprime (unsigned_abs f.num) (unsigned_abs f.den)) both.0 in
    let above : pos 0 <ℤ f.den = less_from (pos 0) f.den lowest.0 in (
      leb-true (unsigned_abs f.num) greatest_num sizes.0,
      (leb-true (unsigned_abs f.den) greatest_den sizes.1, omega (arith, ints, above)),
    )

pub nanometres_size : (shift : ℤ) (f : Ratio) → unsigned_abs shift ≤ greatest_shift
    → IsTrue (is_fraction f) → unsigned_abs (nanometres shift f) ≤ greatest_span
nanometres_size shift f small is =
    let parts = fraction_parts f is in
    let million = product_size f.num (pos (10 ^ 6)) greatest_num (10 ^ 6) parts.0 (lit≤ tt) in
    let shifted = product_size shift f.den greatest_shift greatest_den small parts.1.0 in
    let num_in = difference_size (f.num *ℤ pos (10 ^ 6)) (shift *ℤ f.den) _ _ million shifted in
    let whole = rounded_size (less shift (scaled 6 f)) (greatest_num * 10 ^ 6 + greatest_shift * greatest_den)
    num_in parts.1.1 in
    omega (arith, whole)

-- ---- along a signed axis

times_nothing : (a : ℤ) → pos 0 *ℤ a ≡ pos 0
times_nothing a = equal (times (num 0) (var a)) (num 0) (omega arith)

pub along_x : (a v : Vector) → IsTrue (is_signed_axis a) → a.x ≢ pos 0
    → (inner a v ≡ a.x *ℤ v.x) × (unsigned_abs a.x ≡ 1)
along_x a v axis some =
    let sum = eqb-true (unsigned_abs a.x + unsigned_abs a.y + unsigned_abs a.z) 1 axis in
    let y : a.y ≡ pos 0 = omega (arith, ints, sum, some) in
    let z : a.z ≡ pos 0 = omega (arith, ints, sum, some) in (
      rw (y, z, times_nothing v.y, times_nothing v.z) (omega (arith, ints)),
      omega (arith, ints, sum, some),
    )

pub along_y : (a v : Vector) → IsTrue (is_signed_axis a) → a.x ≡ pos 0 → a.y ≢ pos 0
    → (inner a v ≡ a.y *ℤ v.y) × (unsigned_abs a.y ≡ 1)
along_y a v axis none some =
    let sum = eqb-true (unsigned_abs a.x + unsigned_abs a.y + unsigned_abs a.z) 1 axis in
    let z : a.z ≡ pos 0 = omega (arith, ints, sum, some) in (
      rw (none, z, times_nothing v.x, times_nothing v.z) (omega (arith, ints)),
      omega (arith, ints, sum, some),
    )

pub along_z : (a v : Vector) → IsTrue (is_signed_axis a) → a.x ≡ pos 0 → a.y ≡ pos 0
    → (inner a v ≡ a.z *ℤ v.z) × (unsigned_abs a.z ≡ 1)
along_z a v axis no_x no_y =
    let sum = eqb-true (unsigned_abs a.x + unsigned_abs a.y + unsigned_abs a.z) 1 axis in (
      rw (no_x, no_y, times_nothing v.x, times_nothing v.y) (omega (arith, ints)),
      omega (arith, ints, sum, no_x, no_y),
    )

-- a number times 1 or -1
pub times_sign : (s a : ℤ) → unsigned_abs s ≡ 1 → s <ℤ pos 0 → neg_ℤ a ≡ s *ℤ a
times_sign s a one below =
    let minus : s ≡ neg_ℤ (pos 1) = omega (arith, ints, one, below) in
    rw minus (omega (arith, ints))

pub times_one : (s a : ℤ) → unsigned_abs s ≡ 1 → pos 0 ≤ℤ s → a ≡ s *ℤ a
times_one s a one above =
    let plus : s ≡ pos 1 = omega (arith, ints, one, above) in
    rw plus (omega (arith, ints))

-- for the bodies that turn spans
pub ruleset spans = (to_z-of_z)
