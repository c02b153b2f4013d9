-- The number that the text of an integer or a real writes (ISO 10303-21): its digits, its sign, the
-- place of its point and its exponent, as an exact fraction. It is said of the text alone, and of
-- texts of any length. So each text has a number; what stands in it beside digits, a first minus, a
-- point and an `E` counts for nothing.
use Rattle.std.specs.Prelude.{ℕ, ℤ, pos, neg_ℤ, ◌+◌, ◌*◌, ◌^◌, ◌==◌, Bool, List, length, filter}
use Rattle.std.specs.Prelude.{if◌then◌else◌}
use Rattle.std.specs.List.{before_first, after_first}
use Rattle.std.specs.Char.{is_ascii_digit}
use Rattle.std.specs.Str.Parse.{digits_value}
use Rattle.theory_bytes.specs.Sets.{begins_with}
use Rattle.theory_numbers.specs.Fractions.{Ratio}
use Rattle.sb_lex.specs.Bytes.{minus, point, capital_e}

-- the digits in a text, in order
abbrev pub digits_in : List ℕ → List ℕ
digits_in text = filter is_ascii_digit text

-- a minus stands first
abbrev pub has_minus : List ℕ → Bool
has_minus text = begins_with (λ b. b == minus) text

-- what stands before the `E`, or all: `-12.50` of `-12.50E+3`
abbrev pub mantissa : List ℕ → List ℕ
mantissa text = before_first (λ b. b == capital_e) text

-- what stands behind the point, up to the `E`: `50` of `-12.50E+3`, nothing of `12`
abbrev pub fraction : List ℕ → List ℕ
fraction text = after_first (λ b. b == point) (mantissa text)

-- what stands behind the `E`: `+3` of `-12.50E+3`, nothing of `12.50`
abbrev pub exponent : List ℕ → List ℕ
exponent text = after_first (λ b. b == capital_e) text

-- how often an exponent multiplies by ten: 3 of `+3` and of `3`, 0 of `-3`
abbrev pub raised : List ℕ → ℕ
raised power = if has_minus power then 0 else digits_value 10 (digits_in power)

-- how often it divides by ten: 3 of `-3`, 0 of `+3`
abbrev pub lowered : List ℕ → ℕ
lowered power = if has_minus power then digits_value 10 (digits_in power) else 0

-- the number of this size, below 0 where it is negative; the negative of 0 is 0
abbrev pub signed : Bool → ℕ → ℤ
signed negative size = if negative then neg_ℤ (pos size) else pos size

-- The number that the text writes. The digits before the `E` are one number, divided by ten for each
-- digit behind the point. `-12.50E+3` is -1250·10^3 over 10^2, `12` is 12 over 1, `-0.` is 0 over 1.
unfoldable pub decimal_of : List ℕ → Ratio
decimal_of text =
    let power = exponent text in
    record {
      num =
          signed (has_minus text)
          (digits_value 10 (digits_in (mantissa text)) * 10 ^ raised power);
      den = pos (10 ^ (length (digits_in (fraction text)) + lowered power));
    }
