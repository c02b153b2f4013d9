-- Where a text begins with a number of the first form, there is one such number and one rest.
use Rattle.std.proofs.Common.{◌≡◌, ◌<◌, ◌++◌, ◌==◌, ◌∙◌, ℕ, ℤ, pos, negsuc, suc, List, [], ◌∷◌, true, length, get_or, ap, sym, arith, append_assoc}
use Rattle.std.specs.Prelude.{decimal}
use Rattle.std.specs.List.{list_all, position}
use Rattle.std.specs.Char.{is_ascii_digit}
use Rattle.std.proofs.Math.Seq.{take-append_seam}
use Rattle.std.proofs.lemmas.List.{append_cancel_left, get_or_append_left}
use Rattle.std.proofs.lemmas.Fmt.{decimal_injective, decimal_nonempty}
use Rattle.sb_form.specs.Numbers.{IsShort, number_text, minus, point}
use Rattle.sb_form.proofs.DecimalsAreReadBack.{position-digits, digits_decimal_all, digit_in_range}

-- two runs of digits before a point, in one text
digits_next : (ds es r s : List ℕ) → list_all is_ascii_digit ds ≡ true
    → list_all is_ascii_digit es ≡ true → ds ++ point ∷ r ≡ es ++ point ∷ s → (ds ≡ es) × (r ≡ s)
digits_next ds es r s left right same =
    let at_point = ap (position (λ b. b == point)) same in
    let long : length ds ≡ length es =
    cc (position-digits ds r left, position-digits es s right, at_point) in
    let digits : ds ≡ es =
    sym (take-append_seam ds (point ∷ r)) ∙ (cc (long, same) ∙ take-append_seam es (point ∷ s)) in
    let behind : point ∷ r ≡ point ∷ s =
    append_cancel_left es _ _ (ap (λ l. l ++ point ∷ r) (sym digits) ∙ same) in
    (digits, cc)

-- a decimal with its point is read in one way
pub decimal_next : (m n : ℕ) (r s : List ℕ) → m < 1000000 → n < 1000000
    → decimal m ++ point ∷ r ≡ decimal n ++ point ∷ s → (m ≡ n) × (r ≡ s)
decimal_next m n r s left right same =
    let both =
    digits_next (decimal m) (decimal n) r s (digits_decimal_all m left)
    (digits_decimal_all n right) same in
    (decimal_injective m n (omega arith) (omega arith) both.0, both.1)

-- a number without a sign does not begin with a minus
pub no_minus_first : (n : ℕ) (r s : List ℕ) → n < 1000000 → decimal n ++ r ≡ minus ∷ s → ⊥
no_minus_first n r s short same =
    let first =
    digit_in_range (decimal n) 0 (digits_decimal_all n short)
    (decimal_nonempty n (omega arith)) in
    let here : get_or (decimal n ++ r) 0 0 ≡ get_or (decimal n) 0 0 =
    get_or_append_left (decimal n) r 0 0 (decimal_nonempty n (omega arith)) in
    let there : get_or (decimal n ++ r) 0 0 ≡ minus = ap (λ l. get_or l 0 0) same in
    omega arith

-- the number and the rest are determined by the text
pub number_next : (m n : ℤ) (r s : List ℕ) → IsShort m → IsShort n
    → number_text m ++ r ≡ number_text n ++ s → (m ≡ n) × (r ≡ s)
number_next (pos m) (pos n) r s left right same =
    let both =
    decimal_next m n r s left right
    (sym (append_assoc (decimal m) (point ∷ []) r)
    ∙ (same ∙ append_assoc (decimal n) (point ∷ []) s)) in
    (ap pos both.0, both.1)
number_next (pos m) (negsuc n) r s left right same =
    absurd (no_minus_first m (point ∷ r) _ left (sym (append_assoc (decimal m) (point ∷ []) r) ∙ same))
number_next (negsuc m) (pos n) r s left right same =
    absurd (no_minus_first n (point ∷ s) _ right
    (sym (append_assoc (decimal n) (point ∷ []) s) ∙ sym same))
number_next (negsuc m) (negsuc n) r s left right same =
    let tails : (decimal (suc m) ++ point ∷ []) ++ r ≡ (decimal (suc n) ++ point ∷ []) ++ s = cc in
    let both =
    decimal_next (suc m) (suc n) r s left right
    (sym (append_assoc (decimal (suc m)) (point ∷ []) r)
    ∙ (tails ∙ append_assoc (decimal (suc n)) (point ∷ []) s)) in
    let ends : m ≡ n = omega (arith, both.0) in
    (ap negsuc ends, both.1)

-- behind a minus stand the digits of a number above zero
pub behind_minus : (n : ℤ) (r s : List ℕ) → IsShort n → minus ∷ s ≡ number_text n ++ r
    → (m : ℕ) × (suc m < 1000000) × (s ≡ decimal (suc m) ++ point ∷ r)
behind_minus (pos n) r s short same =
    absurd (no_minus_first n (point ∷ r) s short
    (sym (append_assoc (decimal n) (point ∷ []) r) ∙ sym same))
behind_minus (negsuc n) r s short same =
    let tail : s ≡ (decimal (suc n) ++ point ∷ []) ++ r = cc in
    (n, short, tail ∙ append_assoc (decimal (suc n)) (point ∷ []) r)
