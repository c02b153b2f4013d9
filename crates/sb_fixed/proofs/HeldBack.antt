-- A number that is held back on its way is the number held back at the end.
use Rattle.std.proofs.Common.{◌≡◌, ℕ, zero, suc, ◌+◌, ◌-◌, ◌*◌, ◌/◌, ◌^◌, ◌<◌, ◌≤◌, ◌⊎◌, min, List, length, ap, sym, ◌∙◌, ⊎_elim, arith, take_all, le-mul_of_pos_right}
use Rattle.std.proofs.lemmas.Bool.{cases_lt}
use Rattle.std.specs.Str.Parse.{digits_value}
use Rattle.sb_fixed.specs.Steps.{held, leading}
use Rattle.sb_fixed.proofs.LeadingDigits.{tens_positive, tens_grow}

-- one digit more
pub held_digit : (number digit : ℕ) → min (min number held * 10 + digit) held ≡ min
    (number * 10 + digit) held
held_digit number digit = omega arith

-- what is at least the limit is held back to it
at_limit : (n : ℕ) → held ≤ n → min n held ≡ held
at_limit n order = omega arith

-- a number from the limit on, times something
times_limit : (n t : ℕ) → held ≤ n → 0 < t → held ≤ n * t
times_limit n t large some = omega (arith, large, le-mul_of_pos_right {m = t} n some)

-- zeros behind it
pub held_zeros : (n k : ℕ) → min (min n held * 10 ^ k) held ≡ min (n * 10 ^ k) held
held_zeros n k =
    ⊎_elim
    (λ (small : n < held).
    let same : min n held ≡ n = omega arith in
    rw same)
    (λ (large : held ≤ n).
    let some = tens_positive k in
    rw (at_limit n large)
    (at_limit _ (times_limit held (10 ^ k) (omega arith) some)
    ∙ sym (at_limit _ (times_limit n (10 ^ k) large some))))
    (cases_lt n held)

-- a product with a number that is not 0
le-mul_of_pos_left : (t n : ℕ) → t ≤ suc n * t
le-mul_of_pos_left t n = omega arith

-- from 26 zeros on there is nothing between 0 and the limit
far : (n k : ℕ) → 26 ≤ k → min (n * 10 ^ k) held ≡ min (n * held) held
far zero k many = omega arith
far (suc n) k many =
    let large : held ≤ 10 ^ k = tens_grow 26 k many in
    at_limit _ (omega (arith, le-mul_of_pos_left (10 ^ k) n)) ∙ sym (at_limit _ (omega arith))

-- zeros are put to a number by one product of at most 26 of them
pub by_one_product : (n zeros : ℕ)
    → min (min (n * 10 ^ min zeros 26) (2 ^ 128 - 1)) held ≡ min (n * 10 ^ zeros) held
by_one_product n zeros =
    ⊎_elim
    (λ (few : zeros < 26).
    let same : min zeros 26 ≡ zeros = omega arith in
    rw same (omega arith))
    (λ (many : 26 ≤ zeros).
    let most : min zeros 26 ≡ 26 = omega arith in
    let end = far n zeros many in
    rw most (omega (arith, end)))
    (cases_lt zeros 26)

-- many digits more than there are
far_leading : (count : ℕ) (ds : List ℕ) → length ds + 26 ≤ count
    → min (leading count ds) held ≡ min (digits_value 10 ds * held) held
far_leading count ds many =
    rw (take_all count ds (omega arith))
    (far (digits_value 10 ds) (count - length ds) (omega arith))

-- an exponent that is held back gives the same digits
pub held_exponent : (ds : List ℕ) (places behind up down : ℕ)
    → length ds < 2 ^ 64 → behind < 2 ^ 64 → places ≤ 12 → (up ≡ 0) ⊎ (down ≡ 0)
    → min (leading (length ds + (places + 1) + min up held - (behind + min down held)) ds) held
    ≡ min (leading (length ds + (up + (places + 1)) - (behind + down)) ds) held
held_exponent ds places behind up down short few unit one =
    ⊎_elim
    (λ (near : up + down < held).
    ap (λ n. min (leading n ds) held)
    {x = length ds + (places + 1) + min up held - (behind + min down held)}
    {y = length ds + (up + (places + 1)) - (behind + down)} (omega arith))
    (λ (beyond : held ≤ up + down).
    ⊎_elim
    (λ (none : up ≡ 0).
    ap (λ n. min (leading n ds) held)
    {x = length ds + (places + 1) + min up held - (behind + min down held)}
    {y = length ds + (up + (places + 1)) - (behind + down)} (omega arith))
    (λ (none : down ≡ 0).
    far_leading (length ds + (places + 1) + min up held - (behind + min down held)) ds (omega arith)
    ∙ sym (far_leading (length ds + (up + (places + 1)) - (behind + down)) ds (omega arith)))
    one)
    (cases_lt (up + down) held)

-- ---- half a unit more, in units

-- a number that is held back and beyond the greatest is beyond it
pub beyond_held : (read tenths greatest : ℕ) → read ≡ min tenths held
    → greatest < (read + 5) / 10 → greatest < (tenths + 5) / 10
beyond_held read tenths greatest is over = omega (arith)

-- and one within it is the number itself
pub within_held : (read tenths greatest : ℕ) → greatest ≤ 10 ^ 24 → read ≡ min tenths held
    → (read + 5) / 10 ≤ greatest → (read + 5) / 10 ≡ (tenths + 5) / 10
within_held read tenths greatest few is within =
    let same : read ≡ tenths = omega arith in
    ap (λ n. (n + 5) / 10) same
