-- What is printed is a real of the exchange text, and its number is the one that was printed.
use Rattle.std.proofs.Common.{◌≡◌, refl, ℕ, zero, suc, ◌+◌, ◌*◌, ◌/◌, ◌%◌, ◌^◌, ◌<◌, true, inl, inr, List, [], ◌∷◌, ◌++◌, length, codes, decimal, sym, ap, ap₂, ◌∙◌, arith, append_assoc, append-nil, length-append, ℤ, pos, negsuc, ◌*ℤ◌, unsigned_abs, lit<, lt_of_le_of_lt, mul-one, pow-suc, div-one, div-add-mod', mod-lt}
use Rattle.std.proofs.Math.Nat.{div-le_self, div-div-eq-div-mul, div-eq_of_lt-le}
use Rattle.std.proofs.lemmas.Bool.{and_parts, and_from}
use Rattle.std.proofs.lemmas.Fmt.{decimal_is_IsNumeral_wide}
use Rattle.std.proofs.lemmas.Int.Digits.{digits_value_push}
use Rattle.std.proofs.lemmas.List.Folds.{list_all-append}
use Rattle.std.specs.Char.{is_ascii_digit, digit_value}
use Rattle.std.specs.List.{list_all}
use Rattle.std.specs.Str.Parse.{AllDigits, digits_value}
use Rattle.theory_numbers.specs.Tests.{is_negative}
use Rattle.sb_lex.specs.Bytes as byte
use Rattle.sb_lex.specs.Kinds.{Digits}
use Rattle.sb_fixed.specs.Decimals.{has_minus, signed, decimal_of}
use Rattle.sb_fixed.specs.Rounding.{scaled, rounded}
use Rattle.sb_fixed.specs.Printed.{last_digits, sign_text, scaled_text, PrintedIsRead, PrintedIsTheValue, PrintedIsReal}
use Rattle.sb_fixed.specs.Tokens.{IsSignText}
use Rattle.sb_fixed.proofs.LeadingDigits.{digits_value-append, tens_positive}
use Rattle.sb_fixed.proofs.RoundedByTenths.{not_negative, rounded-signed, signed-times}
use Rattle.sb_fixed.proofs.TokensWriteDecimals.{reals_are_decimals}

-- ---- the last digits

-- there are so many
pub length-last_digits : (count n : ℕ) → length (last_digits count n) ≡ count
length-last_digits zero n = refl
length-last_digits (suc count) n =
    omega (arith, length-append (last_digits count (n / 10)) ((byte.zero + n % 10) ∷ []), length-last_digits count (n / 10))

-- the digit that writes a number below ten
digit_of : (d : ℕ) → d < 10
    → (is_ascii_digit (byte.zero + d) ≡ true) × (digit_value (byte.zero + d) ≡ d)
digit_of d small = (grind arith, grind arith)

last_digit : (n : ℕ) → (is_ascii_digit (byte.zero + n % 10) ≡ true)
    × (digit_value (byte.zero + n % 10) ≡ n % 10)
last_digit n = digit_of (n % 10) (mod-lt n {m = 10} (lit< tt))

-- each is a digit
last_are_digits : (count n : ℕ) → list_all is_ascii_digit (last_digits count n) ≡ true
last_are_digits zero n = refl
last_are_digits (suc count) n =
    list_all-append is_ascii_digit (last_digits count (n / 10)) ((byte.zero + n % 10) ∷ [])
    ∙ and_from (list_all is_ascii_digit (last_digits count (n / 10)))
    (list_all is_ascii_digit ((byte.zero + n % 10) ∷ [])) (last_are_digits count (n / 10))
    (and_from (is_ascii_digit (byte.zero + n % 10)) true (last_digit n).0 refl)

-- and with what stands before them they write the number
last_digits_write : (count n : ℕ)
    → n / 10 ^ count * 10 ^ count + digits_value 10 (last_digits count n) ≡ n
last_digits_write zero n = omega (arith, div-one n)
last_digits_write (suc count) n =
    let high = n / 10 / 10 ^ count in
    let low = digits_value 10 (last_digits count (n / 10)) in
    let twice : n / 10 ^ suc count ≡ high =
    ap (λ t. n / t) {x = 10 ^ suc count} {y = 10 * 10 ^ count} (omega (arith, pow-suc 10 count))
    ∙ sym (div-div-eq-div-mul n 10 (10 ^ count)) in
    let value : digits_value 10 (last_digits (suc count) n) ≡ low * 10 + n % 10 =
    digits_value_push 10 (last_digits count (n / 10)) (byte.zero + n % 10)
    ∙ ap (λ d. low * 10 + d) (last_digit n).1 in
    let tens : high * 10 ^ suc count ≡ high * 10 ^ count * 10 =
    omega (arith, ap (λ t. high * t) (pow-suc 10 count)) in
    let rest = last_digits_write count (n / 10) in
    let all = div-add-mod' n 10 in
    rw (twice, value, tens) (omega (arith, rest, all))

-- ---- the digits before the point

from_value : (b : ℕ) → digit_value b < 10 → is_ascii_digit b ≡ true
from_value b small = grind arith

digits_from : (ds : List ℕ) → AllDigits 10 ds → list_all is_ascii_digit ds ≡ true
digits_from [] all = refl
digits_from (d ∷ ds) all =
    and_from (is_ascii_digit d) (list_all is_ascii_digit ds) (from_value d all.0)
    (digits_from ds all.1)

some_digits : (ds : List ℕ) → 0 < length ds → list_all is_ascii_digit ds ≡ true → Digits ds
some_digits [] some pass = absurd (omega arith)
some_digits (d ∷ ds) some pass =
    let parts = and_parts (is_ascii_digit d) (list_all is_ascii_digit ds) pass in
    record {
      front = d ∷ [];
      back = ds;
      joined = refl;
      first = record { byte = d; passes = parts.0; alone = refl };
      second = parts.1;
    }

-- a number in decimal is digits
decimal_is_digits : (n : ℕ) → n < 10 ^ 64 → Digits (decimal n)
decimal_is_digits n small =
    let numeral = decimal_is_IsNumeral_wide n small in
    some_digits (decimal n) numeral.0.0 (digits_from (decimal n) numeral.0.1)

-- ---- signs

sign_is_text : (value : ℤ) → IsSignText (sign_text value)
sign_is_text (pos n) = rw (not_negative n) (inl refl)
sign_is_text (negsuc n) = inr (record { byte = byte.minus; passes = refl; alone = refl })

minus_of_sign_text : (value : ℤ) → has_minus (sign_text value) ≡ is_negative value
minus_of_sign_text (pos n) = rw (not_negative n) refl
minus_of_sign_text (negsuc n) = refl

-- a number is its size with its sign
pub signed_itself : (value : ℤ) → signed (is_negative value) (unsigned_abs value) ≡ value
signed_itself (pos n) = rw (not_negative n) refl
signed_itself (negsuc n) = refl

-- ---- the whole text

-- its parts, from the front to the back
record Parts (value : ℤ) (places : ℕ) : Type 0 where
  whole : List ℕ
  last : List ℕ
  joined : scaled_text value places ≡ sign_text value ++ (whole ++ (codes "." ++ last))
  is_whole : Digits whole
  is_last : list_all is_ascii_digit last ≡ true
  count : length last ≡ places
  value_is : digits_value 10 (whole ++ last) ≡ unsigned_abs value

parts_of : (value : ℤ) (places : ℕ) → unsigned_abs value < 10 ^ 64 → Parts value places
unfolding scaled_text
parts_of value places small =
    let n = unsigned_abs value in
    let high = n / 10 ^ places in
    let short : high < 10 ^ 64 = lt_of_le_of_lt (div-le_self n (10 ^ places)) small in
    record {
      whole = decimal high;
      last = last_digits places n;
      joined = simp append_assoc;
      is_whole = decimal_is_digits high short;
      is_last = last_are_digits places n;
      count = length-last_digits places n;
      value_is =
          digits_value-append (decimal high) (last_digits places n)
          ∙ ap₂ (λ x k. x * 10 ^ k + digits_value 10 (last_digits places n))
          (decimal_is_IsNumeral_wide high short).1 (length-last_digits places n)
          ∙ last_digits_write places n;
    }

-- it is read back as the same fraction
pub printed_is_read : PrintedIsRead
printed_is_read value places small =
    let parts = parts_of value places small in
    ap decimal_of parts.joined
    ∙ reals_are_decimals (sign_text value) parts.whole parts.last (sign_is_text value)
    parts.is_whole parts.is_last
    ∙ rw (minus_of_sign_text value, parts.value_is, parts.count, mul-one, signed_itself value) refl

-- and rounded at its places it is the same number
pub printed_is_the_value : PrintedIsTheValue
printed_is_the_value value places small =
    ap (λ f. rounded (scaled places f)) (printed_is_read value places small)
    ∙ whole_again value (10 ^ places) (tens_positive places)
  where
    again : (n t : ℕ) → 0 < t → (2 * (n * t) + t) / (2 * t) ≡ n
    again n t some =
        div-eq_of_lt-le (2 * t) {m = 2 * (n * t) + t} (omega arith) (omega arith)

    whole_again : (value : ℤ) (t : ℕ) → 0 < t
        → rounded (record { num = value *ℤ pos t; den = pos t }) ≡ value
    whole_again value t some =
        let b = is_negative value in
        let n = unsigned_abs value in
        ap (λ z. rounded (record { num = z *ℤ pos t; den = pos t })) (sym (signed_itself value))
        ∙ ap (λ z. rounded (record { num = z; den = pos t })) (signed-times b n t)
        ∙ rounded-signed b (n * t) t some ∙ ap (signed b) (again n t some) ∙ signed_itself value

-- it is a real of the exchange text
pub printed_is_real : PrintedIsReal
printed_is_real value places small =
    let parts = parts_of value places small in
    record {
      front = sign_text value;
      back = parts.whole ++ (codes "." ++ parts.last);
      joined = parts.joined;
      first = sign_is_text value;
      second = record {
        front = parts.whole;
        back = codes "." ++ parts.last;
        joined = refl;
        first = parts.is_whole;
        second = record {
          front = codes ".";
          back = parts.last;
          joined = refl;
          first = refl;
          second = record {
            front = parts.last;
            back = [];
            joined = sym (append-nil parts.last);
            first = parts.is_last;
            second = inl refl;
          };
        };
      };
    }
