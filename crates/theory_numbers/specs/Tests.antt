-- Tests of the sign of a whole number.
use Rattle.std.specs.Prelude.{Bool, ℤ, pos, int_lt}

-- the number is above 0: `is_positive (pos 3)` is true, `is_positive (pos 0)` is false
abbrev pub is_positive : ℤ → Bool
is_positive n = int_lt (pos 0) n

-- the number is below 0
abbrev pub is_negative : ℤ → Bool
is_negative n = int_lt n (pos 0)
