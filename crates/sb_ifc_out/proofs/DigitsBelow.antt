-- The digits of a number in base 64, written from the least significant one on.

use Rattle.std.proofs.Common.{◌≡◌, refl, sym, ap, ap₂, ◌∙◌, arith, ℕ, zero, suc, ◌+◌, ◌/◌, ◌%◌, ◌^◌, ◌<◌}
use Rattle.std.proofs.Common.{List, [], ◌∷◌, ◌++◌, length, drop, set, ◌-◌, ◌≤◌}
use Rattle.std.proofs.lemmas.List.{drop-set, length-set}
use Rattle.std.proofs.Math.Nat.{div-div-eq-div-mul, pow-succ', div-one}
use Rattle.sb_ifc_out.specs.Guids.{digit_of, digits_below, guid_of, guid_length}

-- one place further up is one place further up of a 64th
higher : (value place : ℕ) → value / 64 ^ suc place ≡ (value / 64) / 64 ^ place
higher value place =
    ap (λ d. value / d) (pow-succ' 64 place) ∙ sym (div-div-eq-div-mul value 64 (64 ^ place))

-- the digits of a number are those of its 64th, and its last one
pub last_digit : (place value : ℕ)
    → digits_below (suc place) value ≡ digits_below place (value / 64) ++ digit_of (value % 64) ∷ []
last_digit zero value = ap (λ v. digit_of (v % 64) ∷ []) (div-one value)
last_digit (suc place) value =
    ap₂ (λ v rest. digit_of (v % 64) ∷ rest) (higher value place) (last_digit place value)

assoc : (xs : List ℕ) (d : ℕ) (ys : List ℕ) → (xs ++ d ∷ []) ++ ys ≡ xs ++ d ∷ ys
assoc [] d ys = refl
assoc (x ∷ xs) d ys = ap (λ t. x ∷ t) (assoc xs d ys)

-- one more digit is written in front of those that stand
pub one_more : (place value : ℕ) (behind : List ℕ)
    → digits_below place (value / 64) ++ digit_of (value % 64) ∷ behind
    ≡ digits_below (suc place) value ++ behind
one_more place value behind =
    sym (ap (λ front. front ++ behind) (last_digit place value)
    ∙ assoc (digits_below place (value / 64)) (digit_of (value % 64)) behind)

pub guid_is : (value : ℕ) → digits_below guid_length value ≡ guid_of value
unfolding guid_of
guid_is value = refl

-- one turn: the next digit is written in front of those that stand
pub turn : (place left d : ℕ) (text whole : List ℕ) → 0 < place → place ≤ guid_length
    → length text ≡ guid_length → d ≡ digit_of (left % 64)
    → digits_below place left ++ drop place text ≡ whole
    → ((place - 1) ≤ guid_length) × ((length (set text (place - 1) d) ≡ guid_length)
    × (digits_below (place - 1) (left / 64) ++ drop (place - 1) (set text (place - 1) d) ≡ whole))
turn zero left d text whole some few size is stands = absurd (omega (arith, some))
turn (suc p) left d text whole some few size is stands =
    let e : suc p - 1 ≡ p = omega arith in
    rw e (
      omega (arith, few),
      (
        length-set text p d ∙ size,
        ap (λ t. digits_below p (left / 64) ++ t) (drop-set text p d (omega (arith, few, size)))
            ∙ ap₂ (λ a b. digits_below p (left / 64) ++ a ∷ b) is (ap (λ k. drop k text) (next p))
            ∙ one_more p left (drop (suc p) text) ∙ stands,
      ),
    )
  where
    next : (k : ℕ) → k + 1 ≡ suc k
    next k = omega arith
