-- Fractions as numbers, and their order.

use Rattle.std.specs.Prelude.{ℤ, pos}
use Rattle.std.specs.declared.cmp.Ordering.{Ordering}
use Rattle.std.specs.Ordering.{int_cmp}
use Rattle.theory_numbers.specs.Arrows.{Arrow, cross}
use Rattle.theory_numbers.specs.Rationals.{rational}
use Rattle.theory_numbers.specs.Fractions.{Ratio}

-- the fraction num/den
abbrev pub ratio : ℤ → ℤ → Ratio
ratio num den = record { num = num; den = den }

-- a fraction as a rational number
abbrev pub number : Ratio → Arrow
number r = rational r.num r.den

-- the order of two rational numbers: `Less` where r is below s
abbrev pub order_of : Arrow → Arrow → Ordering
order_of r s = int_cmp (pos 0) (cross r s)
