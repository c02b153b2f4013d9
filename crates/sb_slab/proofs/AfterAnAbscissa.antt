-- A plan point lies after an abscissa where the numerator is less than the point's abscissa times the
-- denominator.

use Rattle.std.proofs.Common.{◌≡◌, arith, ℤ, pos, ◌-ℤ◌, ◌*ℤ◌, int_lt}
use Rattle.std.proofs.lemmas.Int.{ints}
use Rattle.theory_numbers.specs.Arrows.{cross}
use Rattle.theory_numbers.specs.Rationals.{rational, is_below}
use Rattle.theory_numbers.proofs.Ring.{mul_comm, mul-one}
use Rattle.theory_numbers.proofs.Signs.{same_less}

pub after_by_products : (num den z : ℤ)
    → int_lt num (z *ℤ den) ≡ is_below (rational num den) (rational z (pos 1))
unfolding cross
after_by_products num den z =
    let turn = mul_comm z den in
    let one = mul-one num in
    same_less num (z *ℤ den) (pos 0) ((den *ℤ z) -ℤ (num *ℤ pos 1))
    (λ less. omega (arith, ints)) (λ less. omega (arith, ints))
