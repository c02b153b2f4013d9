-- The first digits of a number write it divided by a power of ten, and zeros behind it multiply.
use Rattle.std.proofs.Common.{◌≡◌, refl, ℕ, zero, suc, ◌+◌, ◌-◌, ◌*◌, ◌/◌, ◌^◌, ◌<◌, ◌≤◌, true, List, [], ◌∷◌, ◌++◌, length, take, drop, filter, sym, ap, ap₂, ◌∙◌, ⊎_elim, arith, lit<, mul_assoc, mul-one, pow-suc, pow-add, take_all, take-append-drop, length-drop, lt_of_lt_of_le}
use Rattle.std.proofs.Math.Nat.{div-eq_of_lt, div-eq_of_lt-le, mul-div-mul_right, pow-le-pow_right, one-le-pow, div-one}
use Rattle.std.proofs.lemmas.Bool.{cases_Bool, cases_lt}
use Rattle.std.proofs.lemmas.Int.Digits.{digits_value-lt}
use Rattle.std.specs.Char.{is_ascii_digit, digit_value}
use Rattle.std.specs.Str.Parse.{AllDigits, digits_value, digits_value_after}
use Rattle.sb_fixed.specs.Steps.{leading}

-- ---- digits

-- a byte that is a digit has a value below ten
pub digit_small : (b : ℕ) → is_ascii_digit b ≡ true → digit_value b < 10
digit_small b is = grind arith

-- the digits of a text are digits
pub digits_are_digits : (xs : List ℕ) → AllDigits 10 (filter is_ascii_digit xs)
digits_are_digits [] = tt
digits_are_digits (b ∷ bs) =
    ⊎_elim (λ yes. rw yes (digit_small b yes, digits_are_digits bs))
    (λ no. rw no (digits_are_digits bs)) (cases_Bool (is_ascii_digit b))

-- digits that follow a number move it up by a place each
digits_value_after_is : (n : ℕ) (ds : List ℕ)
    → digits_value_after 10 n ds ≡ n * 10 ^ length ds + digits_value 10 ds
digits_value_after_is n [] = omega arith
digits_value_after_is n (d ∷ ds) =
    let first = digits_value_after_is (n * 10 + digit_value d) ds in
    let other = digits_value_after_is (0 * 10 + digit_value d) ds in
    omega (arith, ap (λ x. n * x) (pow-suc 10 (length ds)))

after-append : (n : ℕ) (xs ys : List ℕ)
    → digits_value_after 10 n (xs ++ ys) ≡ digits_value_after 10 (digits_value_after 10 n xs) ys
after-append n [] ys = refl
after-append n (x ∷ xs) ys = after-append (n * 10 + digit_value x) xs ys

-- the number of digits and more digits behind them
pub digits_value-append : (xs ys : List ℕ)
    → digits_value 10 (xs ++ ys) ≡ digits_value 10 xs * 10 ^ length ys + digits_value 10 ys
digits_value-append xs ys = after-append 0 xs ys ∙ digits_value_after_is _ ys

digits-drop : (n : ℕ) (ds : List ℕ) → AllDigits 10 ds → AllDigits 10 (drop n ds)
digits-drop zero ds all = all
digits-drop (suc n) [] all = tt
digits-drop (suc n) (d ∷ ds) all = digits-drop n ds all.1

-- ---- tens

-- a power of ten is positive
pub tens_positive : (n : ℕ) → 0 < 10 ^ n
tens_positive n = one-le-pow n 10 (lit< tt)

-- more tens are at least as many
pub tens_grow : (m n : ℕ) → m ≤ n → 10 ^ m ≤ 10 ^ n
tens_grow m n order = pow-le-pow_right (lit< tt) order

-- ---- the first digits

cut_long : (ds : List ℕ) (j : ℕ) → AllDigits 10 ds → length ds < j
    → digits_value 10 ds / 10 ^ j ≡ digits_value 10 (take (length ds - j) ds)
cut_long ds j all beyond =
    let none : length ds - j ≡ 0 = omega arith in
    let small : digits_value 10 ds < 10 ^ j =
    lt_of_lt_of_le (digits_value-lt 10 ds all) (tens_grow (length ds) j (omega arith)) in
    rw none (div-eq_of_lt small)

cut_short : (ds : List ℕ) (j : ℕ) → AllDigits 10 ds → j ≤ length ds
    → digits_value 10 ds / 10 ^ j ≡ digits_value 10 (take (length ds - j) ds)
cut_short ds j all within =
    let k = length ds - j in
    let left : length (drop k ds) ≡ j = omega (arith, length-drop k ds) in
    let split : digits_value 10 ds
    ≡ digits_value 10 (take k ds) * 10 ^ j + digits_value 10 (drop k ds) =
    ap (digits_value 10) (sym (take-append-drop k ds)) ∙ digits_value-append (take k ds) (drop k ds)
    ∙ ap (λ n. digits_value 10 (take k ds) * 10 ^ n + digits_value 10 (drop k ds)) left in
    let small : digits_value 10 (drop k ds) < 10 ^ j =
    rw left at (digits_value-lt 10 (drop k ds) (digits-drop k ds all)) in
    div-eq_of_lt-le (10 ^ j) (omega arith) (omega arith)

-- all but the last digits write the number divided
pub cut_digits : (ds : List ℕ) (j : ℕ) → AllDigits 10 ds
    → digits_value 10 ds / 10 ^ j ≡ digits_value 10 (take (length ds - j) ds)
cut_digits ds j all =
    ⊎_elim (λ beyond. cut_long ds j all beyond) (λ within. cut_short ds j all within)
    (cases_lt (length ds) j)

-- tens that are both multiplied and divided by go away
tens_quotient : (m a b : ℕ) → m * 10 ^ a / 10 ^ b ≡ m * 10 ^ (a - b) / 10 ^ (b - a)
tens_quotient m a b =
    let c = a - (a - b) in
    let above : 10 ^ a ≡ 10 ^ (a - b) * 10 ^ c =
    ap (λ n. 10 ^ n) {x = a} {y = (a - b) + c} (omega arith) ∙ pow-add 10 (a - b) c in
    let below : 10 ^ b ≡ 10 ^ (b - a) * 10 ^ c =
    ap (λ n. 10 ^ n) {x = b} {y = (b - a) + c} (omega arith) ∙ pow-add 10 (b - a) c in
    ap₂ (λ x y. m * x / y) above below
    ∙ ap (λ x. x / (10 ^ (b - a) * 10 ^ c)) (sym (mul_assoc m (10 ^ (a - b)) (10 ^ c)))
    ∙ mul-div-mul_right (m * 10 ^ (a - b)) (10 ^ (b - a)) (tens_positive c)

leads_below : (ds : List ℕ) (a b : ℕ) → AllDigits 10 ds → a < b
    → digits_value 10 ds * 10 ^ (a - b) / 10 ^ (b - a) ≡ leading (length ds + a - b) ds
leads_below ds a b all order =
    let none : a - b ≡ 0 = omega arith in
    let count : length ds + a - b ≡ length ds - (b - a) = omega arith in
    let over : length ds - (b - a) - length ds ≡ 0 = omega arith in
    rw (none, count, over, mul-one (digits_value 10 ds))
    (cut_digits ds (b - a) all ∙ sym (mul-one (digits_value 10 (take (length ds - (b - a)) ds))))

leads_above : (ds : List ℕ) (a b : ℕ) → AllDigits 10 ds → b ≤ a
    → digits_value 10 ds * 10 ^ (a - b) / 10 ^ (b - a) ≡ leading (length ds + a - b) ds
leads_above ds a b all order =
    let none : b - a ≡ 0 = omega arith in
    let count : length ds + a - b ≡ length ds + (a - b) = omega arith in
    let over : length ds + (a - b) - length ds ≡ a - b = omega arith in
    let whole : take (length ds + (a - b)) ds ≡ ds = take_all _ ds (omega arith) in
    rw (none, count, over, whole) (div-one (digits_value 10 ds * 10 ^ (a - b)))

-- a number multiplied and divided by tens is written by its first digits, or by all and zeros
pub leading_is : (ds : List ℕ) (a b : ℕ) → AllDigits 10 ds
    → digits_value 10 ds * 10 ^ a / 10 ^ b ≡ leading (length ds + a - b) ds
leading_is ds a b all =
    tens_quotient (digits_value 10 ds) a b
    ∙ ⊎_elim (λ below. leads_below ds a b all below) (λ above. leads_above ds a b all above)
    (cases_lt a b)
