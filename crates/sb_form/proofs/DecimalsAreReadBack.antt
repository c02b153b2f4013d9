-- The digits of a number below a million are plain, end at the point behind them, and give the
-- number back.
use Rattle.std.proofs.Common.{◌≡◌, ◌<◌, ◌≤◌, ◌+◌, ◌-◌, ◌++◌, ◌==◌, ◌∙◌, ℕ, zero, suc, List, [], ◌∷◌, Some, true, length, get_or, take, refl, ap, sym, arith, rules, not, length-append, lt-ltb, eqb-true, drop, drop-cons, add-one}
use Rattle.std.specs.Prelude.{decimal}
use Rattle.std.specs.List.{list_all, position, prefix_len}
use Rattle.std.specs.Char.{is_ascii_digit, digit_value}
use Rattle.std.specs.Int.{IsInRange}
use Rattle.std.specs.Str.{all_ascii_digits}
use Rattle.std.specs.Str.Parse.{digits_value}
use Rattle.std.proofs.lemmas.Str.Parse.{IsNumeralModel, numerals_by_value, tells_all_ascii_digits, digit_at, digits_value-take-le, digits_value_short}
use Rattle.std.proofs.lemmas.Fmt.{digits_decimal, length-decimal-le, decimal_nonempty, first_decimal, decimal-digits_value, decimal_digit}
use Rattle.std.proofs.Math.Seq.{take-append_seam}
use Rattle.std.proofs.lemmas.List.{take-append-drop}
use Rattle.std.proofs.lemmas.List.Quantifiers.{position-Some}
use Rattle.sb_form.specs.Numbers.{HasPlainLength, digit_nine, digit_zero, point}

-- the digits and their value, as `parse` has them
pub plain_numerals : IsNumeralModel (λ ds. all_ascii_digits ds ≡ true) (digits_value 10)
plain_numerals = numerals_by_value _ tells_all_ascii_digits

list_all-digits : (ds : List ℕ) → list_all is_ascii_digit ds ≡ all_ascii_digits ds
list_all-digits [] = refl
list_all-digits (d ∷ ds) = rw (list_all-digits ds) refl

-- the decimal of a short number has digits alone
pub digits_decimal_all : (n : ℕ) → n < 1000000 → list_all is_ascii_digit (decimal n) ≡ true
digits_decimal_all n short =
    list_all-digits (decimal n) ∙ digits_decimal plain_numerals n (omega arith)

-- each digit is one of `0` to `9`
pub digit_in_range : (ds : List ℕ) (i : ℕ) → list_all is_ascii_digit ds ≡ true → i < length ds
    → IsInRange digit_zero digit_nine (get_or ds i 0)
digit_in_range ds i all within =
    digit_at ds i (plain_numerals.to ds (sym (list_all-digits ds) ∙ all)) within

-- six digits at most write less than a million, and so does each part
pub value_is_short : (ds : List ℕ) (i : ℕ) → list_all is_ascii_digit ds ≡ true → length ds ≤ 6
    → digits_value 10 (take i ds) < 1000000
value_is_short ds i all few =
    let whole = digits_value_short plain_numerals ds 6 (sym (list_all-digits ds) ∙ all) few in
    omega (arith, digits_value-take-le 10 ds i (omega arith))

-- the digits of a short number are one to six, and no zero leads
pub decimal_is_plain : (n : ℕ) → n < 1000000 → HasPlainLength (decimal n)
decimal_is_plain zero short =
    let one = ap length (decimal_digit 0 (omega arith)) in
    (omega arith, omega arith, λ _. one)
decimal_is_plain (suc n) short = (
  decimal_nonempty (suc n) (omega arith),
  length-decimal-le 6 (suc n) (omega arith) (omega arith) (omega arith),
  λ zero_leads. absurd
      (omega (arith, first_decimal (suc n) (omega arith) (omega arith), zero_leads)),
)

-- and plain digits write a short number
pub short_value : (ds : List ℕ) → HasPlainLength ds → list_all is_ascii_digit ds ≡ true
    → digits_value 10 ds < 1000000
short_value ds plain all =
    digits_value_short plain_numerals ds 6 (sym (list_all-digits ds) ∙ all) plain.1

-- plain digits are what is written of their value
pub decimal-plain_value : (ds : List ℕ) → HasPlainLength ds → list_all is_ascii_digit ds ≡ true
    → decimal (digits_value 10 ds) ≡ ds
decimal-plain_value ds plain all =
    decimal-digits_value plain_numerals ds (sym (list_all-digits ds) ∙ all) plain.0 plain.2
    (let short = digits_value_short plain_numerals ds 6 (sym (list_all-digits ds) ∙ all) plain.1 in
    omega arith)

prefix_len-digits : (ds rest : List ℕ) → list_all is_ascii_digit ds ≡ true
    → prefix_len (λ b. not (b == point)) (ds ++ point ∷ rest) ≡ length ds
prefix_len-digits [] rest all = refl
prefix_len-digits (d ∷ ds) rest all =
    let first = digit_in_range (d ∷ ds) 0 all (omega arith) in
    let others : list_all is_ascii_digit ds ≡ true = search (rules, all) in
    let same = prefix_len-digits ds rest others in
    grind (arith, same, first)

-- digits hold no point, so the first point is the one behind them
pub position-digits : (ds rest : List ℕ) → list_all is_ascii_digit ds ≡ true
    → position (λ b. b == point) (ds ++ point ∷ rest) ≡ Some (length ds)
position-digits ds rest all =
    rw (prefix_len-digits ds rest all)
    (rw (lt-ltb (length ds) (length (ds ++ point ∷ rest))
    (rw (length-append ds (point ∷ rest)) (omega arith))) refl)

digit_value-from_range : (d : ℕ) → IsInRange digit_zero digit_nine d → digit_value d ≡ d - digit_zero
digit_value-from_range d range = grind (arith, range)

-- a digit is worth what it is above `0`
pub digit_value-digit : (ds : List ℕ) (i : ℕ) → list_all is_ascii_digit ds ≡ true → i < length ds
    → digit_value (get_or ds i 0) ≡ get_or ds i 0 - digit_zero
digit_value-digit ds i all within =
    let range = digit_in_range ds i all within in
    digit_value-from_range (get_or ds i 0) range

-- where digits end at a point, they are what stands before the first point
pub front-digits : (ds rest bytes : List ℕ) → list_all is_ascii_digit ds ≡ true
    → bytes ≡ ds ++ point ∷ rest → take (length ds) bytes ≡ ds
front-digits ds rest bytes all same = rw (same) (take-append_seam ds (point ∷ rest))

-- a number below a million ends at the first point
pub position-decimal : (n : ℕ) (rest bytes : List ℕ) → n < 1000000 → bytes ≡ decimal n ++ point ∷ rest
    → position (λ b. b == point) bytes ≡ Some (length (decimal n))
position-decimal n rest bytes short same =
    rw same (position-digits (decimal n) rest (digits_decimal_all n short))

-- and stands whole before it
pub front-decimal : (n p : ℕ) (rest bytes : List ℕ) → n < 1000000
    → Some p ≡ position (λ b. b == point) bytes → bytes ≡ decimal n ++ point ∷ rest
    → take p bytes ≡ decimal n
front-decimal n p rest bytes short first same =
    let here : p ≡ length (decimal n) = cc (position-decimal n rest bytes short same) in
    rw here (front-digits (decimal n) rest bytes (digits_decimal_all n short) same)

-- what stands before the first point, the point, and what stands behind it
pub split_at_point : (p : ℕ) (bytes : List ℕ) → Some p ≡ position (λ b. b == point) bytes
    → bytes ≡ take p bytes ++ point ∷ drop (p + 1) bytes
split_at_point p bytes first =
    let found = position-Some (λ b. b == point) bytes p 0 (sym first) in
    let at_point : get_or bytes p 0 ≡ point = eqb-true _ _ found.1 in
    let behind : drop p bytes ≡ point ∷ drop (p + 1) bytes =
    rw (add-one, ← at_point) (drop-cons bytes p 0 found.0) in
    sym (take-append-drop p bytes) ∙ ap (λ s. take p bytes ++ s) behind
