-- The whole number next below a fraction is no larger, and stands between the same whole numbers.

use Rattle.std.proofs.Common.{arith, ℕ, suc, ◌/◌, ◌≤◌, lit<, le_trans, IsTrue}
use Rattle.std.proofs.Common.{ℤ, pos, negsuc, ◌<ℤ◌, ◌≤ℤ◌, ◌+ℤ◌, ◌*ℤ◌, unsigned_abs, int_lt, FitsSigned}
use Rattle.std.specs.Int.{w64}
use Rattle.std.proofs.lemmas.Int.{ints, to_z-of_z, fits_signed_from_abs}
use Rattle.std.proofs.Math.Nat.{div-le_self, div-mul-le_self, lt-div-mul-add, lt_of_le_of_lt}
use Rattle.theory_numbers.proofs.Products.{unscale_less, unscale_at_most}
use Rattle.theory_numbers.proofs.Ring.{mul_comm}
use Rattle.theory_numbers.proofs.Shapes.{Is, num, plus, times, less, at_most}
use Rattle.theory_numbers.proofs.Signs.{less_from}
use Rattle.sb_fraction.specs.Bounds.{greatest_crossing}
use Rattle.sb_frame.specs.Through.{whole_below}

-- ---- where it lies

-- a negative number by its size
negative : (n : ℕ) → Is (negsuc n) 0 (suc n)
negative n = record { diff = omega arith }

-- w times it is at most the numerator
at_numerator : (a w : ℤ) → pos 0 <ℤ w → (whole_below a w *ℤ w) ≤ℤ a
at_numerator (pos a) (pos w) positive =
    at_most (times (num (a / w)) (num w)) (num a) (omega (arith, div-mul-le_self a w))
at_numerator (negsuc a) (pos w) positive =
    at_most (times (negative (a / w)) (num w)) (negative a)
    (omega (arith, lt-div-mul-add {a = a} {b = w} (omega (arith, ints))))
at_numerator (pos a) (negsuc w) positive = absurd (omega (arith, ints))
at_numerator (negsuc a) (negsuc w) positive = absurd (omega (arith, ints))

-- and w times the next one above it
past_numerator : (a w : ℤ) → pos 0 <ℤ w → a <ℤ ((whole_below a w +ℤ pos 1) *ℤ w)
past_numerator (pos a) (pos w) positive =
    less (num a) (times (plus (num (a / w)) (num 1)) (num w))
    (omega (arith, lt-div-mul-add {a = a} {b = w} (omega (arith, ints))))
past_numerator (negsuc a) (pos w) positive =
    less (negative a) (times (plus (negative (a / w)) (num 1)) (num w))
    (omega (arith, div-mul-le_self a w))
past_numerator (pos a) (negsuc w) positive = absurd (omega (arith, ints))
past_numerator (negsuc a) (negsuc w) positive = absurd (omega (arith, ints))

-- ---- between whole numbers

-- a whole number at most the fraction is at most it
pub at_least_whole : (a w m : ℤ) → pos 0 <ℤ w → (m *ℤ w) ≤ℤ a → m ≤ℤ whole_below a w
at_least_whole a w m positive low =
    let past = past_numerator a w positive in
    let turned = mul_comm m w in
    let turned_past = mul_comm (whole_below a w +ℤ pos 1) w in
    let under = unscale_less w m (whole_below a w +ℤ pos 1) (omega (arith, ints)) (omega (arith, ints)) in
    omega (arith, ints)

-- and one at least the fraction is at least it
pub at_most_whole : (a w m : ℤ) → pos 0 <ℤ w → a ≤ℤ (m *ℤ w) → whole_below a w ≤ℤ m
at_most_whole a w m positive high =
    let at = at_numerator a w positive in
    let turned = mul_comm m w in
    let turned_at = mul_comm (whole_below a w) w in
    unscale_at_most w (whole_below a w) m positive (omega (arith, ints))

-- ---- its size

size_below : (a w : ℤ) → pos 0 <ℤ w → unsigned_abs (whole_below a w) ≤ unsigned_abs a
size_below (pos a) (pos w) positive = div-le_self a w
size_below (negsuc a) (pos w) positive = omega (arith, div-le_self a w)
size_below (pos a) (negsuc w) positive = absurd (omega (arith, ints))
size_below (negsuc a) (negsuc w) positive = absurd (omega (arith, ints))

-- that of a crossing's coordinate fits 64 bits
pub whole_fits : (a w : ℤ) → unsigned_abs a ≤ greatest_crossing → IsTrue (int_lt (pos 0) w)
    → FitsSigned w64 (whole_below a w)
whole_fits a w a_in positive =
    fits_signed_from_abs w64 (whole_below a w)
    (lt_of_le_of_lt (le_trans (size_below a w (less_from (pos 0) w positive)) a_in) (lit< tt))

pub ruleset quotients = (to_z-of_z, whole_fits)
