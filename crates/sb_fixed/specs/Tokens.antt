-- The decimal of a token by the grammar: which number the parts of an integer and of a real stand for.
use Rattle.std.specs.Prelude.{◌≡◌, ℕ, pos, ◌+◌, ◌*◌, ◌^◌, List, ◌++◌, length, codes}
use Rattle.std.specs.Char.{is_ascii_digit}
use Rattle.std.specs.Str.Parse.{digits_value}
use Rattle.theory_bytes.specs.Sets.{Byte, Bytes, Optional}
use Rattle.theory_numbers.specs.Fractions.{Ratio}
use Rattle.sb_lex.specs.Bytes.{is_sign}
use Rattle.sb_lex.specs.Kinds.{Digits}
use Rattle.sb_fixed.specs.Decimals.{has_minus, raised, lowered, signed, decimal_of}

-- a sign, or nothing
abbrev pub IsSignText : List ℕ → Type 0
IsSignText = Optional (Byte is_sign)

-- this number with this sign before it, ten times as large `up` times and a tenth `down` times
abbrev pub with_tens : List ℕ → ℕ → ℕ → ℕ → Ratio
with_tens sign number up down =
    record { num = signed (has_minus sign) (number * 10 ^ up); den = pos (10 ^ down) }

-- Laws: an integer, a real, and a real with an exponent

-- a sign and digits
abbrev pub IntegersAreDecimals : Type 0
IntegersAreDecimals =
    (sign whole : List ℕ) → IsSignText sign → Digits whole
    → decimal_of (sign ++ whole) ≡ with_tens sign (digits_value 10 whole) 0 0

-- a sign, digits, a point and digits or none
abbrev pub RealsAreDecimals : Type 0
RealsAreDecimals =
    (sign whole places : List ℕ) → IsSignText sign → Digits whole → Bytes is_ascii_digit places
    → decimal_of (sign ++ (whole ++ (codes "." ++ places)))
    ≡ with_tens sign (digits_value 10 (whole ++ places)) 0 (length places)

-- and behind these an `E`, a sign and digits
abbrev pub ExponentsAreDecimals : Type 0
ExponentsAreDecimals =
    (sign whole places minus power : List ℕ)
    → IsSignText sign → Digits whole → Bytes is_ascii_digit places
    → IsSignText minus → Digits power
    → decimal_of (sign ++ (whole ++ (codes "." ++ (places ++ (codes "E" ++ (minus ++ power))))))
    ≡ with_tens sign (digits_value 10 (whole ++ places)) (raised (minus ++ power))
    (length places + lowered (minus ++ power))
