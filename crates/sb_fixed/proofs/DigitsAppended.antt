-- The last digits of a number are appended one by one, and what stood before them stays.
use Rattle.std.proofs.Common.{◌≡◌, refl, ℕ, suc, ◌+◌, ◌-◌, ◌/◌, ◌%◌, ◌^◌, ◌<◌, List, [], ◌∷◌, ◌++◌, length, take, sym, ap, ◌∙◌, arith, add-one, pow-suc, length-append, take-take, take_at}
use Rattle.std.proofs.Math.Nat.{div-div-eq-div-mul}
use Rattle.sb_fixed.specs.Printed.{last_digits}

-- one digit more
pub one_digit_more : (count done n : ℕ) → done < count
    → last_digits done (n / 10 ^ (count - done)) ++ (48 + n / 10 ^ (count - 1 - done) % 10) ∷ []
    ≡ last_digits (done + 1) (n / 10 ^ (count - (done + 1)))
one_digit_more count done n more =
    let k = count - (done + 1) in
    let before : count - done ≡ suc k = omega arith in
    let place : count - 1 - done ≡ k = omega arith in
    let tenth : n / 10 ^ suc k ≡ n / 10 ^ k / 10 =
    ap (λ t. n / t) (pow-suc 10 k) ∙ sym (div-div-eq-div-mul n (10 ^ k) 10) in
    rw (before, place, tenth, add-one) refl

-- what begins with a text begins with the front of that text
pub front_kept : (front more text all : List ℕ) → text ≡ front ++ more
    → take (length text) all ≡ text → take (length front) all ≡ front
front_kept front more text all joined kept =
    let length_is : length text ≡ length front + length more =
    ap length joined ∙ length-append front more in
    sym (take-take (length front) (length text) all (omega arith))
    ∙ ap (take (length front)) (kept ∙ joined) ∙ take_at front more (length front) refl
