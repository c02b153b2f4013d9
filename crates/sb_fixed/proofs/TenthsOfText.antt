-- The first digits of a text write how many tenths of a unit there are in its number.
use Rattle.std.proofs.Common.{◌≡◌, ℕ, ◌+◌, ◌-◌, ◌*◌, ◌/◌, ◌^◌, ◌<◌, ◌≤◌, ◌⊎◌, inl, inr, min, List, length, ap, sym, ◌∙◌, ⊎_elim, arith, pos, pow-add}
use Rattle.std.proofs.lemmas.Bool.{cases_Bool}
use Rattle.std.specs.Str.Parse.{digits_value}
use Rattle.sb_fixed.specs.Decimals.{digits_in, has_minus, mantissa, fraction, exponent, raised, lowered, signed, decimal_of}
use Rattle.sb_fixed.specs.Rounding.{scaled, rounded}
use Rattle.sb_fixed.specs.Steps.{held, leading, wanted, tenths_of}
use Rattle.sb_fixed.proofs.LeadingDigits.{digits_are_digits, tens_positive, leading_is}
use Rattle.sb_fixed.proofs.HeldBack.{held_exponent}
use Rattle.sb_fixed.proofs.RoundedByTenths.{nearest_by_tenths, size_of_signed, signed-times, rounded-signed}

-- the digits before the exponent, as one number
abbrev digits_of : List ℕ → ℕ
digits_of text = digits_value 10 (digits_in (mantissa text))

-- the tens that the number is multiplied and divided by
abbrev up_of : List ℕ → ℕ
up_of text = raised (exponent text)

abbrev down_of : List ℕ → ℕ
down_of text = length (digits_in (fraction text)) + lowered (exponent text)

-- the number in units of its places: a sign, a number and tens
in_places : (text : List ℕ) (places : ℕ)
    → scaled places (decimal_of text)
    ≡ record {
      num = signed (has_minus text) (digits_of text * 10 ^ up_of text * 10 ^ places);
      den = pos (10 ^ down_of text);
    }
unfolding decimal_of
in_places text places =
    ap (λ n. record { num = n; den = pos (10 ^ down_of text) })
    (signed-times (has_minus text) (digits_of text * 10 ^ up_of text) (10 ^ places))

-- its size in tenths
tenths_are : (text : List ℕ) (places : ℕ)
    → tenths_of (scaled places (decimal_of text))
    ≡ 10 * (digits_of text * 10 ^ up_of text * 10 ^ places) / 10 ^ down_of text
tenths_are text places =
    ap tenths_of (in_places text places)
    ∙ ap (λ n. 10 * n / 10 ^ down_of text) (size_of_signed (has_minus text) _)

-- ten times a product with tens
one_place_more : (m a b : ℕ) → 10 * (m * 10 ^ a * 10 ^ b) ≡ m * 10 ^ (a + (b + 1))
one_place_more m a b =
    let all = pow-add 10 a (b + 1) in
    let last = pow-add 10 b 1 in
    rw (all, last) (omega arith)

-- and the first digits write it
tenths_lead : (text : List ℕ) (places : ℕ)
    → tenths_of (scaled places (decimal_of text))
    ≡ leading (length (digits_in (mantissa text)) + (up_of text + (places + 1)) - down_of text)
    (digits_in (mantissa text))
tenths_lead text places =
    tenths_are text places
    ∙ ap (λ n. n / 10 ^ down_of text) (one_place_more (digits_of text) (up_of text) places)
    ∙ leading_is (digits_in (mantissa text)) (up_of text + (places + 1)) (down_of text)
    (digits_are_digits (mantissa text))

-- an exponent multiplies or divides
one_way : (power : List ℕ) → (raised power ≡ 0) ⊎ (lowered power ≡ 0)
one_way power =
    ⊎_elim (λ yes. inl (rw yes)) (λ no. inr (rw no)) (cases_Bool (has_minus power))

-- the digits wanted write the tenths, up to where they are held back
pub tenths_are_wanted : (text : List ℕ) (places : ℕ)
    → length (digits_in (mantissa text)) < 2 ^ 64 → length (digits_in (fraction text)) < 2 ^ 64
    → places ≤ 12
    → min (leading (wanted places text) (digits_in (mantissa text))) held
    ≡ min (tenths_of (scaled places (decimal_of text))) held
tenths_are_wanted text places short few unit =
    held_exponent (digits_in (mantissa text)) places (length (digits_in (fraction text)))
    (raised (exponent text)) (lowered (exponent text)) short few unit (one_way (exponent text))
    ∙ ap (λ n. min n held) (sym (tenths_lead text places))

-- the number in units of its places, rounded: half a unit is five tenths
pub rounded_by_tenths : (text : List ℕ) (places : ℕ)
    → rounded (scaled places (decimal_of text))
    ≡ signed (has_minus text) ((tenths_of (scaled places (decimal_of text)) + 5) / 10)
rounded_by_tenths text places =
    let n = digits_of text * 10 ^ up_of text * 10 ^ places in
    let d = 10 ^ down_of text in
    ap rounded (in_places text places) ∙ rounded-signed (has_minus text) n d (tens_positive _)
    ∙ ap (signed (has_minus text)) (nearest_by_tenths n d (tens_positive _)
    ∙ ap (λ t. (t + 5) / 10) (sym (tenths_are text places)))
