-- A number of the first form is read as one real.
use Rattle.std.proofs.Common.{◌≡◌, ◌<◌, ◌+◌, ◌++◌, ◌==◌, ◌∙◌, ℕ, ℤ, pos, negsuc, suc, true, false, List, [], ◌∷◌, Some, length, get_or, drop, refl, ap, sym, subst, arith, append_assoc, length-append}
use Rattle.std.specs.Prelude.{decimal, slice_index}
use Rattle.std.specs.List.{list_all, prefix_len}
use Rattle.std.specs.Int.{IsInRange}
use Rattle.std.specs.Char.{is_ascii_digit}
use Rattle.std.proofs.Math.Seq.{take-append_seam, get_or-append_seam, drop-append-add}
use Rattle.std.proofs.lemmas.List.{get_or_append_left}
use Rattle.std.proofs.lemmas.Fmt.{decimal_nonempty}
use Rattle.std.proofs.lemmas.Bool.{and_parts, ne_eqb}
use Rattle.sb_lex.specs.declared.kinds.Kind.TheVariants as kind
use Rattle.sb_lex.specs.Bytes.{capital_e, is_letter}
use Rattle.sb_lex.specs.Scanning.{longer, head_of, exponent_len, fraction_len, scan_unsigned, scan_at, scan}
use Rattle.sb_lex.specs.Kinds.{BlankPiece}
use Rattle.theory_bytes.proofs.RepeatsGrow.{repeated_nothing}
use Rattle.sb_form.specs.Numbers.{IsShort, number_text, digit_nine, digit_zero, minus, point}
use Rattle.sb_form.proofs.DecimalsAreReadBack.{digits_decimal_all, digit_in_range}
use Rattle.sb_form.proofs.TokensAtTheFront.{Piece, IsFirst}

-- what may follow a number that ends at its point: no digit, and no exponent
pub record EndsReal (rest : List ℕ) : Type 0 where
  pub no_digit : prefix_len is_ascii_digit rest ≡ 0
  pub no_exponent : (slice_index rest 0 == capital_e) ≡ false

-- no exponent stands there
exponent_len-none : (rest : List ℕ) → EndsReal rest → exponent_len rest ≡ 0
unfolding exponent_len
exponent_len-none rest ends = rw ends.no_exponent refl

fraction_len-none : (rest : List ℕ) → EndsReal rest → fraction_len rest ≡ 0
fraction_len-none rest ends = rw ends.no_digit (omega (arith, exponent_len-none rest ends))

-- digits, up to the point behind them
prefix_len-point : (ds rest : List ℕ) → list_all is_ascii_digit ds ≡ true
    → prefix_len is_ascii_digit (ds ++ point ∷ rest) ≡ length ds
prefix_len-point [] rest all = refl
prefix_len-point (d ∷ ds) rest all =
    let parts = and_parts (is_ascii_digit d) (list_all is_ascii_digit ds) all in
    rw parts.0 (rw (prefix_len-point ds rest parts.1) (omega arith))

-- digits and a point are a real
scan_number-digits : (ds rest : List ℕ) → list_all is_ascii_digit ds ≡ true → 0 < length ds
    → EndsReal rest → scan_unsigned (ds ++ point ∷ rest) ≡ Some (kind.Real, length ds + 1)
unfolding scan_unsigned
scan_number-digits ds rest all some ends =
    let size = prefix_len-point ds rest all in
    let not_none = ne_eqb (length ds) 0 (λ none. omega (arith, none, some)) in
    let behind : drop (length ds + 1) (ds ++ point ∷ rest) ≡ rest =
    drop-append-add ds (point ∷ rest) 1 in
    rw size (rw not_none (rw (get_or-append_seam ds point rest 0)
    (rw behind (rw (fraction_len-none rest ends) (ap (λ n. Some (kind.Real, n)) (omega arith))))))

-- a digit begins a number
head_of-digit : (b : ℕ) → IsInRange digit_zero digit_nine b → head_of b ≡ head_of digit_zero
head_of-digit b digit =
    let no_letter : is_letter b ≡ false = grind (arith, digit) in
    let is_digit : is_ascii_digit b ≡ true = grind (arith, digit) in
    rw no_letter (rw is_digit refl)

scan-digits : (ds rest : List ℕ) → list_all is_ascii_digit ds ≡ true → 0 < length ds
    → EndsReal rest → scan (ds ++ point ∷ rest) ≡ Some (kind.Real, length ds + 1)
scan-digits ds rest all some ends =
    let bytes = ds ++ point ∷ rest in
    let digit : IsInRange digit_zero digit_nine (get_or bytes 0 0) =
    subst (IsInRange digit_zero digit_nine) (sym (get_or_append_left ds (point ∷ rest) 0 0 some))
    (digit_in_range ds 0 all some) in
    ap (λ h. scan_at h bytes) (head_of-digit (get_or bytes 0 0) digit)
    ∙ scan_number-digits ds rest all some ends

scan-signed : (ds rest : List ℕ) → list_all is_ascii_digit ds ≡ true → 0 < length ds
    → EndsReal rest → scan (minus ∷ ds ++ point ∷ rest) ≡ Some (kind.Real, 1 + (length ds + 1))
scan-signed ds rest all some ends = ap (longer 1) (scan_number-digits ds rest all some ends)

scan-number_text : (n : ℤ) (rest : List ℕ) → IsShort n → EndsReal rest
    → scan (number_text n ++ rest) ≡ Some (kind.Real, length (number_text n))
scan-number_text (pos n) rest short ends =
    ap scan (append_assoc (decimal n) (point ∷ []) rest)
    ∙ scan-digits (decimal n) rest (digits_decimal_all n short)
    (decimal_nonempty n (omega arith)) ends
    ∙ ap (λ k. Some (kind.Real, k)) (sym (length-append (decimal n) (point ∷ [])))
scan-number_text (negsuc n) rest short ends =
    let ds = decimal (suc n) in
    ap (λ l. scan (minus ∷ l)) (append_assoc ds (point ∷ []) rest)
    ∙ scan-signed ds rest (digits_decimal_all (suc n) short)
    (decimal_nonempty (suc n) (omega arith)) ends
    ∙ ap (λ k. Some (kind.Real, k)) (omega (arith, length-append ds (point ∷ [])))

-- the number alone
abbrev pub real_of : ℤ → Piece
real_of n =
    record { gap = 0; of_kind = kind.Real; size = length (number_text n); text = number_text n }

-- a short number is the first token of the bytes, where no digit or letter goes on with it
pub number_is_first : (n : ℤ) (rest : List ℕ) → IsShort n → EndsReal rest
    → IsFirst (real_of n) (number_text n ++ rest)
number_is_first n rest short ends = record {
  blank = repeated_nothing BlankPiece;
  within = omega arith;
  found = scan-number_text n rest short ends;
  spelled = take-append_seam (number_text n) rest;
}
