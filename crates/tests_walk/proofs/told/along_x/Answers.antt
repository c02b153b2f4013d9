-- (1, 0) is a direction.
use Rattle.std.proofs.Common.{pos, IsTrue, refl}
use Rattle.theory_numbers.specs.Divisors.{greatest_divisor, divisor_within}
use Rattle.sb_fraction.specs.Plane.{is_direction}
use Rattle.tests_walk.proofs.told.along_x.Goals as goal

in_lowest_terms : IsTrue (is_direction (pos 1) (pos 0))
unfolding greatest_divisor divisor_within
in_lowest_terms = refl

pub invariant_of-result : goal.invariant_of-result
invariant_of-result c = record { is_direction = in_lowest_terms }
