-- How large a fraction, an abscissa, a crossing and what stands between them may be.

use Rattle.std.specs.Prelude.{ℕ, ◌*◌, ◌^◌, Bool, ◌&&◌, nat_le, unsigned_abs}
use Rattle.theory_numbers.specs.Fractions.{Ratio, is_lowest}
use Rattle.sb_fraction.specs.Spots.{Spot}

-- the greatest size of a numerator
abbrev pub greatest_num : ℕ
greatest_num = 10 ^ 32

-- the greatest denominator
abbrev pub greatest_den : ℕ
greatest_den = 10 ^ 25

-- numerator and denominator are within their bounds
abbrev pub is_in_bounds : Ratio → Bool
is_in_bounds r = nat_le (unsigned_abs r.num) greatest_num
    && nat_le (unsigned_abs r.den) greatest_den

-- a fraction in lowest terms within the bounds
abbrev pub is_fraction : Ratio → Bool
is_fraction r = is_lowest r && is_in_bounds r

-- the greatest size of an abscissa's numerator
abbrev pub greatest_abscissa : ℕ
greatest_abscissa = 2 * 10 ^ 24

-- the greatest denominator of an abscissa and of a crossing
abbrev pub greatest_cross : ℕ
greatest_cross = 2 * 10 ^ 12

-- the size that an abscissa may have: two of this size can be compared within 128 bits
abbrev pub is_abscissa_size : Ratio → Bool
is_abscissa_size r = nat_le (unsigned_abs r.num) greatest_abscissa
    && nat_le (unsigned_abs r.den) greatest_cross

-- the greatest size of a numerator of a crossing's coordinate
abbrev pub greatest_crossing : ℕ
greatest_crossing = 10 ^ 18

-- the size that the common point of two edges may have
abbrev pub is_crossing_size : Spot → Bool
is_crossing_size p = nat_le (unsigned_abs p.x) greatest_crossing
    && (nat_le (unsigned_abs p.y) greatest_crossing && nat_le (unsigned_abs p.w) greatest_cross)

-- the greatest size of a product of two cross products, and of a difference of two such
abbrev pub greatest_square : ℕ
greatest_square = 4 * 10 ^ 24

abbrev pub greatest_offset : ℕ
greatest_offset = 8 * 10 ^ 24

-- the greatest size of such a difference times a denominator
abbrev pub greatest_product : ℕ
greatest_product = 16 * 10 ^ 36
