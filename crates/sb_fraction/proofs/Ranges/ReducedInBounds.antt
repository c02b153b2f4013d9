-- A fraction divided by its greatest common divisor stays within the bounds.

use Rattle.std.proofs.Common.{ℕ, ℤ, pos, ◌≤◌, ◌<ℤ◌, ◌≡◌, true, IsTrue, unsigned_abs, nat_le}
use Rattle.std.proofs.Common.{le_trans}
use Rattle.std.proofs.lemmas.Int.{to_z-of_z}
use Rattle.std.proofs.lemmas.Bool.{and_from, le-leb}
use Rattle.std.proofs.Math.Nat.{div-le_self}
use Rattle.theory_numbers.specs.Divisors.{greatest_divisor}
use Rattle.theory_numbers.specs.Fractions.{reduced, divided, is_lowest}
use Rattle.theory_numbers.proofs.Fractions.LowestTerms.{abs-divided, common_is_positive, reduced_is_lowest}
use Rattle.theory_numbers.proofs.Fractions.LowestTerms.{reduced_is_same}
use Rattle.sb_fraction.specs.Bounds.{is_fraction, is_in_bounds, greatest_num, greatest_den}

-- no quotient is greater than the number that was divided
size_at_most : (z : ℤ) (g bound : ℕ) → unsigned_abs z ≤ bound
    → nat_le (unsigned_abs (divided z g)) bound ≡ true
size_at_most z g bound size =
    rw (abs-divided z g) (le-leb _ _ (le_trans (div-le_self (unsigned_abs z) g) size))

-- a fraction whose parts are within the bounds is one in lowest terms within them
pub reduced_is_fraction : (num den : ℤ) → pos 0 <ℤ den
    → unsigned_abs num ≤ greatest_num
    → unsigned_abs den ≤ greatest_den
    → IsTrue (is_fraction (reduced num den))
unfolding reduced
reduced_is_fraction num den positive num_size den_size =
    let g = greatest_divisor (unsigned_abs num) (unsigned_abs den) in
    and_from (is_lowest (reduced num den)) (is_in_bounds (reduced num den))
    (reduced_is_lowest num den positive)
    (and_from _ _
    (size_at_most num g greatest_num num_size)
    (size_at_most den g greatest_den den_size))

-- for the calls that divide: a number that is passed is itself, and what its quotients are
pub ruleset lowest = (to_z-of_z, common_is_positive, reduced_is_fraction, reduced_is_same)
