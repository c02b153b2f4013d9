-- How a number with places is written: `0.000001`, `-12.500000`.
use Rattle.std.specs.Prelude.{◌≡◌, ℕ, zero, suc, ℤ, pos, ◌+◌, ◌/◌, ◌%◌, ◌^◌, ◌<◌, List, [], ◌∷◌, ◌++◌}
use Rattle.std.specs.Prelude.{codes, decimal, unsigned_abs, if◌then◌else◌}
use Rattle.theory_numbers.specs.Tests.{is_negative}
use Rattle.sb_lex.specs.declared.kinds.Kind.TheVariants as kind
use Rattle.sb_lex.specs.Kinds.{IsOf}
use Rattle.sb_lex.specs.Bytes as byte
use Rattle.sb_fixed.specs.Decimals.{decimal_of}
use Rattle.sb_fixed.specs.Rounding.{scaled, rounded}

-- the last digits of a number, so many: three of 42 are `042`, three of 12345 are `345`
abbrev pub last_digits : ℕ → ℕ → List ℕ
last_digits zero n = []
last_digits (suc count) n = last_digits count (n / 10) ++ (byte.zero + n % 10) ∷ []

-- a minus below zero, and nothing else
abbrev pub sign_text : ℤ → List ℕ
sign_text value = if is_negative value then codes "-" else []

-- value/10^places: what is whole in it, with no zero that it does not need, a point, and exactly so
-- many places
unfoldable pub scaled_text : ℤ → ℕ → List ℕ
scaled_text value places =
    let size = unsigned_abs value in
    sign_text value ++ decimal (size / 10 ^ places) ++ codes "." ++ last_digits places size

-- Laws

-- what is written is read back as the same fraction
abbrev pub PrintedIsRead : Type 0
PrintedIsRead =
    (value : ℤ) (places : ℕ) → unsigned_abs value < 10 ^ 64
    → decimal_of (scaled_text value places) ≡ record { num = value; den = pos (10 ^ places) }

-- and rounded at its places it is the same number
abbrev pub PrintedIsTheValue : Type 0
PrintedIsTheValue =
    (value : ℤ) (places : ℕ) → unsigned_abs value < 10 ^ 64
    → rounded (scaled places (decimal_of (scaled_text value places))) ≡ value

-- it is a real of the exchange text
abbrev pub PrintedIsReal : Type 0
PrintedIsReal =
    (value : ℤ) (places : ℕ) → unsigned_abs value < 10 ^ 64
    → IsOf kind.Real (scaled_text value places)
