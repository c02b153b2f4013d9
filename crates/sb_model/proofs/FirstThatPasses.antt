-- Items that are looked at one by one: the first that passes a test, which is the lowest-numbered
-- where the numbers rise.

use Rattle.std.proofs.Common.{ℕ, ◌<◌, ◌≡◌, Bool, true, false, List, [], ◌∷◌, ◌+◌, drop, length, get_or, Option, Some, None, if◌then◌else◌, refl, ap, sym, subst, ◌∙◌, arith}
use Rattle.std.specs.List.{find}
use Rattle.std.proofs.lemmas.List.{drop_more}
use Rattle.std.proofs.lemmas.Bool.{le-leb}
use Rattle.sb_model.specs.Building.{first_wrong}
use Rattle.sb_model.specs.Labels.{lowest, lower_of}
use Rattle.sb_model.proofs.FoundByNumber.{first_above}

-- the item at hand is the first that passes
pub found_here : {X : Type 0} (test : X → Bool) (xs items : List X) (i : ℕ) (x : X) → items ≡ xs
    → find test items ≡ find test (drop i items) → i < length items → x ≡ get_or items i x
    → test x ≡ true → Some x ≡ find test xs
found_here test xs items i x same so_far within here passes =
    sym (sym (ap (find test) same) ∙ so_far
    ∙ ap (find test) (drop_more items i x within)
    ∙ ap (λ t. find test (t ∷ drop (i + 1) items)) (sym here)
    ∙ ap (λ b. if b then Some x else find test (drop (i + 1) items)) passes)

module _ {X : Type 0} (number : X → ℕ) (wrong test : X → Bool) where
  -- what is found has a number above the one before
  found_above : (before : ℕ) (xs : List X) → first_wrong number wrong before xs ≡ None → (y : X)
      → find test xs ≡ Some y → before < number y
  found_above before [] none y is = absurd (cc)
  found_above before (x ∷ xs) none y is =
      let parts = first_above number wrong before x xs none in
      by_test (test x) refl parts.0
      (λ later. omega (arith, parts.0, found_above (number x) xs parts.1 y later)) is
    where
      by_test : (passes : Bool) → test x ≡ passes → before < number x
          → (find test xs ≡ Some y → before < number y)
          → (if passes then Some x else find test xs) ≡ Some y → before < number y
      by_test true e above rest found = subst (λ t. before < number t) (some_is found) above
        where
          some_is : Some x ≡ Some y → x ≡ y
          some_is found = cc
      by_test false e above rest found = rest found

  lower_is : (x : X) (found : Option X) → ((y : X) → found ≡ Some y → number x < number y)
      → lower_of number x found ≡ x
  lower_is x None above = refl
  lower_is x (Some y) above = rw (le-leb (number x) (number y) (omega (arith, above y refl))) refl

  -- the lowest-numbered that passes is the first, where the numbers rise
  pub lowest_is_first : (before : ℕ) (xs : List X) → first_wrong number wrong before xs ≡ None
      → lowest number test xs ≡ find test xs
  lowest_is_first before [] none = refl
  lowest_is_first before (x ∷ xs) none =
      let parts = first_above number wrong before x xs none in
      by_test (test x) (find test xs) (lowest_is_first (number x) xs parts.1)
      (lower_is x (find test xs) (found_above (number x) xs parts.1))
    where
      by_test : (passes : Bool) (found : Option X) → lowest number test xs ≡ found
          → lower_of number x found ≡ x
          → (if passes then Some (lower_of number x (lowest number test xs)) else lowest number test xs)
          ≡ (if passes then Some x else found)
      by_test true found rest lower = ap (λ o. Some (lower_of number x o)) rest ∙ ap Some lower
      by_test false found rest lower = rest
