-- The directions of the rows are directions.

use Rattle.std.proofs.Common.{pos, negsuc, IsTrue, refl}
use Rattle.theory_numbers.specs.Divisors.{greatest_divisor, divisor_within}
use Rattle.sb_fraction.specs.Plane.{is_direction}

pub along_x_is : IsTrue (is_direction (pos 1) (pos 0))
unfolding greatest_divisor divisor_within
along_x_is = refl

pub along_y_is : IsTrue (is_direction (pos 0) (pos 1))
unfolding greatest_divisor divisor_within
along_y_is = refl

pub rising_is : IsTrue (is_direction (pos 1) (pos 1))
unfolding greatest_divisor divisor_within
rising_is = refl

pub falling_is : IsTrue (is_direction (pos 1) (negsuc 0))
unfolding greatest_divisor divisor_within
falling_is = refl
