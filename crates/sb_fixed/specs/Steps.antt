-- What the private functions promise. A number is read in tenths of the unit that is asked for, cut
-- off, and held back where it is beyond every answer.
use Rattle.std.specs.Prelude.{ℕ, ◌+◌, ◌-◌, ◌*◌, ◌/◌, ◌^◌, min, List, length, take, unsigned_abs}
use Rattle.std.specs.Str.Parse.{digits_value}
use Rattle.theory_numbers.specs.Fractions.{Ratio}
use Rattle.sb_fixed.specs.Decimals.{digits_in, mantissa, fraction, exponent, raised, lowered}

-- from here on a number grows no more: 10^26
abbrev pub held : ℕ
held = 100000000000000000000000000

-- the number that the first digits write, so many of them; zeros follow where there are fewer
abbrev pub leading : ℕ → List ℕ → ℕ
leading count digits = digits_value 10 (take count digits) * 10 ^ (count - length digits)

-- How many digits stand before the point and one place behind it, once the point has moved by the
-- exponent and by the places of the unit.
abbrev pub wanted : ℕ → List ℕ → ℕ
wanted places text =
    length (digits_in (mantissa text)) + (places + 1) + min (raised (exponent text)) held
    - (length (digits_in (fraction text)) + min (lowered (exponent text)) held)

-- how many tenths there are in the size of f
abbrev pub tenths_of : Ratio → ℕ
tenths_of f = 10 * unsigned_abs f.num / unsigned_abs f.den
