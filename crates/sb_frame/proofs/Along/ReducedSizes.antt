-- A fraction reduced has no larger numbers.

use Rattle.std.proofs.Common.{ℕ, ℤ, ◌≤◌, ◌≡◌, true, IsTrue, unsigned_abs, nat_le, le_trans}
use Rattle.std.proofs.lemmas.Bool.{and_from, le-leb}
use Rattle.std.proofs.Math.Nat.{div-le_self}
use Rattle.theory_numbers.specs.Divisors.{greatest_divisor}
use Rattle.theory_numbers.specs.Fractions.{reduced, divided}
use Rattle.theory_numbers.proofs.Fractions.LowestTerms.{abs-divided}
use Rattle.sb_fraction.specs.Bounds.{is_abscissa_size, greatest_abscissa, greatest_cross}

-- no quotient is greater than the number that was divided
size_at_most : (z : ℤ) (g bound : ℕ) → unsigned_abs z ≤ bound
    → nat_le (unsigned_abs (divided z g)) bound ≡ true
size_at_most z g bound size =
    rw (abs-divided z g) (le-leb _ _ (le_trans (div-le_self (unsigned_abs z) g) size))

-- so an abscissa reduced has the size of one
pub reduced_size : (num den : ℤ) → unsigned_abs num ≤ greatest_abscissa
    → unsigned_abs den ≤ greatest_cross → IsTrue (is_abscissa_size (reduced num den))
unfolding reduced
reduced_size num den num_size den_size =
    let g = greatest_divisor (unsigned_abs num) (unsigned_abs den) in
    and_from (nat_le (unsigned_abs (divided num g)) greatest_abscissa)
    (nat_le (unsigned_abs (divided den g)) greatest_cross)
    (size_at_most num g greatest_abscissa num_size) (size_at_most den g greatest_cross den_size)
