-- Numbers that can be added and compared.
use Rattle.std.specs.Prelude.{ℤ, ◌^◌, Bool, nat_le, unsigned_abs}
use Rattle.sb_model.specs.Frames.{greatest_framed}

-- a number is at most 10^18 in size
abbrev pub is_small : ℤ → Bool
is_small n = nat_le (unsigned_abs n) greatest_framed

-- and at most 2^61: where a shift is more, no small number comes into range
abbrev pub is_wide : ℤ → Bool
is_wide n = nat_le (unsigned_abs n) (2 ^ 61)
