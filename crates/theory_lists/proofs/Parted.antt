-- Where each item that passes a test follows only items that pass it, the first ones pass and the
-- others do not; and of what passes there is an odd number where there is one of the first ones.

use Rattle.std.proofs.Common.{◌≡◌, refl, ap, ap₂, ◌∙◌, ℕ, zero, suc, Bool}
use Rattle.std.proofs.Common.{true, false, ◌&&◌, List, [], ◌∷◌, take}
use Rattle.std.specs.List.{AllByRecursion}
use Rattle.std.proofs.lemmas.Bool.{false_from_ne_true}
use Rattle.theory_lists.specs.Members.{AllOfTwo}
use Rattle.theory_lists.proofs.Members.{all_follow}
use Rattle.theory_lists.specs.Parted.{IsPartedAt}
use Rattle.theory_lists.specs.Parity.{differ, is_odd_number}

-- ---- a test that each item passes which a later one passes

module _ {X : Type 0} (test : X → Bool) where
  all_fail : (x : X) (xs : List X) → test x ≡ false
      → AllByRecursion (λ y. test y ≡ true → test x ≡ true) xs
      → AllByRecursion (λ y. test y ≡ false) xs
  all_fail x xs fails follow =
      all_follow (λ y only. false_from_ne_true (test y) (λ passes. clash fails (only passes))) xs
      follow
    where
      clash : {b : Bool} → b ≡ false → b ≡ true → ⊥
      clash none some = cc

  -- into the first ones, which pass, and the others, which do not
  pub parted : (xs : List X) → AllOfTwo (λ x y. test y ≡ true → test x ≡ true) xs
      → (n : ℕ) × IsPartedAt test n xs
  parted [] falls = (0, record { first = tt; rest = tt })
  parted (x ∷ xs) falls = from (test x) refl (parted xs falls.1)
    where
      from : (b : Bool) → test x ≡ b → (n : ℕ) × IsPartedAt test n xs
          → (n : ℕ) × IsPartedAt test n (x ∷ xs)
      from true passes (n, found) =
          (suc n, record { first = (passes, found.first); rest = found.rest })
      from false fails rest =
          (zero, record { first = tt; rest = (fails, all_fail x xs fails falls.0) })

-- ---- what another test says of a list that is parted

module _ {X : Type 0} where
  -- of a list that a test parts, an odd number passes it and another where an odd number of the first
  -- part passes the other
  pub odd_in_part : (own test : X → Bool) (n : ℕ) (xs : List X) → IsPartedAt test n xs
      → is_odd_number (λ x. own x && test x) xs ≡ is_odd_number own (take n xs)
  odd_in_part own test zero [] part = refl
  odd_in_part own test (suc n) [] part = refl
  odd_in_part own test zero (x ∷ xs) part =
      ap₂ differ (ap (λ b. own x && b) part.rest.0 ∙ and_false (own x))
      (odd_in_part own test zero xs (record { first = tt; rest = part.rest.1 }))
    where
      and_false : (b : Bool) → (b && false) ≡ false
      and_false true = refl
      and_false false = refl
  odd_in_part own test (suc n) (x ∷ xs) part =
      ap₂ differ (ap (λ b. own x && b) part.first.0 ∙ and_true (own x))
      (odd_in_part own test n xs (record { first = part.first.1; rest = part.rest }))
    where
      and_true : (b : Bool) → (b && true) ≡ b
      and_true true = refl
      and_true false = refl
