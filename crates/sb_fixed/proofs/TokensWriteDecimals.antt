-- The number of an integer and of a real is that of its parts: sign, digits, point and exponent.
use Rattle.std.proofs.Common.{◌≡◌, refl, ℕ, ◌+◌, ◌*◌, ◌^◌, Bool, true, false, ◌==◌, inl, inr, List, [], ◌∷◌, ◌++◌, length, sym, ap, ap₂, ◌∙◌, arith, append_assoc, append-nil, add-zero, pos}
use Rattle.std.proofs.lemmas.Bool.{and_from}
use Rattle.std.proofs.lemmas.Bool.Decides.{nat_tests}
use Rattle.std.proofs.lemmas.List.Elements.{filter-append}
use Rattle.std.specs.Char.{is_ascii_digit}
use Rattle.std.specs.List.{list_all}
use Rattle.std.specs.Str.Parse.{digits_value}
use Rattle.theory_bytes.specs.Sets.{Bytes}
use Rattle.theory_bytes.proofs.JoinedHasParts.{begun}
use Rattle.sb_lex.specs.Bytes.{is_sign, minus, point, capital_e}
use Rattle.sb_lex.specs.Kinds.{Digits}
use Rattle.sb_fixed.specs.Decimals.{digits_in, has_minus, mantissa, fraction, exponent, raised, lowered, signed, decimal_of}
use Rattle.sb_fixed.specs.Tokens.{IsSignText, IntegersAreDecimals, RealsAreDecimals, ExponentsAreDecimals}
use Rattle.sb_fixed.proofs.CutAtMarks.{is_free, before_mark, behind_mark, before_no_mark, behind_no_mark, free_of, free_append, filter_all, filter_none}

-- ---- the bytes of signs and digits

sign_bytes : (sign : List ℕ) → IsSignText sign → list_all is_sign sign ≡ true
sign_bytes sign (inl none) = rw none
sign_bytes sign (inr byte) = rw byte.alone (and_from (is_sign byte.byte) true byte.passes refl)

no_sign_is_digit : (b : ℕ) → is_sign b ≡ true → is_ascii_digit b ≡ false
no_sign_is_digit b is = grind (arith, nat_tests)

no_digit_is_minus : (b : ℕ) → is_ascii_digit b ≡ true → (b == minus) ≡ false
no_digit_is_minus b is = grind (arith, nat_tests)

-- digits are bytes that are digits
pub digit_bytes : (digits : List ℕ) → Digits digits → list_all is_ascii_digit digits ≡ true
digit_bytes digits is =
    let parts = begun is_ascii_digit is_ascii_digit digits is in
    rw parts.whole
    (and_from (is_ascii_digit parts.byte) (list_all is_ascii_digit parts.body) parts.is_first
    parts.pass)

-- a minus before digits is the sign's
minus_of_sign : (sign digits rest : List ℕ) → IsSignText sign → Digits digits
    → has_minus ((sign ++ digits) ++ rest) ≡ has_minus sign
minus_of_sign sign digits rest (inl none) is =
    let parts = begun is_ascii_digit is_ascii_digit digits is in
    rw (none, parts.whole) (no_digit_is_minus parts.byte parts.is_first)
minus_of_sign sign digits rest (inr byte) is = rw byte.alone

-- a sign and digits, the front of each number
record Front (sign whole : List ℕ) : Type 0 where
  no_point : is_free point (sign ++ whole) ≡ true
  no_e : is_free capital_e (sign ++ whole) ≡ true
  digits : digits_in (sign ++ whole) ≡ whole

front : (sign whole : List ℕ) → IsSignText sign → Digits whole → Front sign whole
front sign whole is_sign_text is_digits =
    let signs = sign_bytes sign is_sign_text in
    let digits = digit_bytes whole is_digits in
    record {
      no_point =
          free_append point sign whole (free_of is_sign point refl sign signs)
          (free_of is_ascii_digit point refl whole digits);
      no_e =
          free_append capital_e sign whole (free_of is_sign capital_e refl sign signs)
          (free_of is_ascii_digit capital_e refl whole digits);
      digits =
          filter-append is_ascii_digit sign whole
          ∙ rw (
            filter_none is_ascii_digit is_sign no_sign_is_digit sign signs,
            filter_all is_ascii_digit whole digits,
          ) refl;
    }

-- the number of a text by its parts
by_parts : (text whole places power : List ℕ) (negative : Bool)
    → has_minus text ≡ negative → digits_in (mantissa text) ≡ whole
    → digits_in (fraction text) ≡ places → exponent text ≡ power
    → decimal_of text ≡ record {
      num = signed negative (digits_value 10 whole * 10 ^ raised power);
      den = pos (10 ^ (length places + lowered power));
    }
unfolding decimal_of
by_parts text whole places power negative sign digits behind last =
    rw (sign, digits, behind, last) refl

-- ---- the three forms

-- an integer
pub integers_are_decimals : IntegersAreDecimals
integers_are_decimals sign whole is_sign_text is_digits =
    let head = front sign whole is_sign_text is_digits in
    let all : mantissa (sign ++ whole) ≡ sign ++ whole =
    before_no_mark capital_e (sign ++ whole) head.no_e in
    let none : fraction (sign ++ whole) ≡ [] =
    rw all (behind_no_mark point (sign ++ whole) head.no_point) in
    let minus : has_minus (sign ++ whole) ≡ has_minus sign =
    rw append-nil at (minus_of_sign sign whole [] is_sign_text is_digits) in
    by_parts (sign ++ whole) whole [] [] (has_minus sign) minus (ap digits_in all ∙ head.digits)
    (ap digits_in none) (behind_no_mark capital_e (sign ++ whole) head.no_e)

-- the front of a real and its places
record Body (sign whole places : List ℕ) : Type 0 where
  no_e : is_free capital_e ((sign ++ whole) ++ (point ∷ places)) ≡ true
  digits : digits_in ((sign ++ whole) ++ (point ∷ places)) ≡ whole ++ places

body : (sign whole places : List ℕ) → IsSignText sign → Digits whole → Bytes is_ascii_digit places
    → Body sign whole places
body sign whole places is_sign_text is_digits are_places =
    let head = front sign whole is_sign_text is_digits in
    let tail : is_free capital_e (point ∷ places) ≡ true =
    free_of is_ascii_digit capital_e refl places are_places in
    record {
      no_e = free_append capital_e (sign ++ whole) (point ∷ places) head.no_e tail;
      digits =
          filter-append is_ascii_digit (sign ++ whole) (point ∷ places)
          ∙ ap₂ (λ x y. x ++ y) head.digits (filter_all is_ascii_digit places are_places);
    }

-- a real without an exponent
pub reals_are_decimals : RealsAreDecimals
reals_are_decimals sign whole places is_sign_text is_digits are_places =
    let head = front sign whole is_sign_text is_digits in
    let main = body sign whole places is_sign_text is_digits are_places in
    let text = (sign ++ whole) ++ (point ∷ places) in
    let all : mantissa text ≡ text = before_no_mark capital_e text main.no_e in
    let behind : fraction text ≡ places =
    rw all (behind_mark point (sign ++ whole) places head.no_point) in
    let parts = by_parts text (whole ++ places) places [] (has_minus sign)
    (minus_of_sign sign whole (point ∷ places) is_sign_text is_digits)
    (ap digits_in all ∙ main.digits)
    (ap digits_in behind ∙ filter_all is_ascii_digit places are_places)
    (behind_no_mark capital_e text main.no_e) in
    ap decimal_of (sym (append_assoc sign whole (point ∷ places))) ∙ parts
    ∙ ap (λ n. record {
      num = signed (has_minus sign) (digits_value 10 (whole ++ places) * 10 ^ 0);
      den = pos (10 ^ n);
    }) (add-zero (length places))

-- a real with an exponent
pub exponents_are_decimals : ExponentsAreDecimals
exponents_are_decimals sign whole places minus power is_sign_text is_digits are_places _ _ =
    let head = front sign whole is_sign_text is_digits in
    let main = body sign whole places is_sign_text is_digits are_places in
    let before = (sign ++ whole) ++ (point ∷ places) in
    let last = minus ++ power in
    let text = before ++ (capital_e ∷ last) in
    let cut : mantissa text ≡ before = before_mark capital_e before last main.no_e in
    let behind : fraction text ≡ places =
    rw cut (behind_mark point (sign ++ whole) places head.no_point) in
    let joined : sign ++ (whole ++ (point ∷ (places ++ (capital_e ∷ last)))) ≡ text =
    simp append_assoc in
    let first : has_minus text ≡ has_minus sign =
    ap has_minus (append_assoc (sign ++ whole) (point ∷ places) (capital_e ∷ last))
    ∙ minus_of_sign sign whole ((point ∷ places) ++ (capital_e ∷ last)) is_sign_text is_digits in
    ap decimal_of joined
    ∙ by_parts text (whole ++ places) places last (has_minus sign) first
    (ap digits_in cut ∙ main.digits)
    (ap digits_in behind ∙ filter_all is_ascii_digit places are_places)
    (behind_mark capital_e before last main.no_e)
