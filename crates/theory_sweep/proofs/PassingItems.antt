-- The items of a list that pass a test, as a list: two lists without an item twice have the same
-- parity
-- where the one has just the items of the other that pass.

use Rattle.std.proofs.Common.{◌≡◌, ◌⊎◌, inl, inr, refl, sym, ap, ◌∙◌, Bool, true, false, not, List}
use Rattle.std.proofs.Common.{[]}
use Rattle.std.proofs.Common.{◌∷◌}
use Rattle.std.specs.List.{AllByRecursion, filter}
use Rattle.std.proofs.lemmas.Bool.{false≢true}
use Rattle.theory_lists.specs.Members.{Stands, AreOnce}
use Rattle.theory_lists.specs.Parity.{differ, is_odd_number}
use Rattle.theory_lists.proofs.Parity.{is_odd_number-permuted}
use Rattle.theory_lists.proofs.SameMembers.{permuted_if_same_members}

module _ {X : Type 0} (test : X → Bool) where
  -- an odd number of a list passes a test where what passes is an odd number
  odd_of_passing : (xs : List X)
      → is_odd_number test xs ≡ is_odd_number (λ x. true) (filter test xs)
  odd_of_passing [] = refl
  odd_of_passing (x ∷ xs) = by (test x) refl (odd_of_passing xs)
    where
      by : (b : Bool) → test x ≡ b
          → is_odd_number test xs ≡ is_odd_number (λ y. true) (filter test xs)
          → differ (test x) (is_odd_number test xs)
          ≡ is_odd_number (λ y. true) (filter test (x ∷ xs))
      by true passes rest = rw passes (ap not rest)
      by false fails rest = rw fails rest

  -- what stands there stands in the list, and passes
  stands_passing : (z : X) (xs : List X) → Stands z (filter test xs) → Stands z xs × (test z ≡ true)
  stands_passing z [] at = absurd at
  stands_passing z (x ∷ xs) at = by (test x) refl (stands_passing z xs) at
    where
      by : (b : Bool) → test x ≡ b → (Stands z (filter test xs) → Stands z xs × (test z ≡ true))
          → Stands z (filter test (x ∷ xs)) → Stands z (x ∷ xs) × (test z ≡ true)
      by true passes rest at_x = from (rw passes at at_x)
        where
          from : (z ≡ x) ⊎ Stands z (filter test xs) → Stands z (x ∷ xs) × (test z ≡ true)
          from (inl one) = (inl one, ap test one ∙ passes)
          from (inr later) = let more = rest later in (inr more.0, more.1)
      by false fails rest at_x = let more = rest (rw fails at at_x) in (inr more.0, more.1)

  -- and what does both stands there
  passing_stands : (z : X) (xs : List X) → Stands z xs → test z ≡ true → Stands z (filter test xs)
  passing_stands z [] at passes = absurd at
  passing_stands z (x ∷ xs) at passes = by (test x) refl
      (λ later. passing_stands z xs later passes) at
    where
      by : (b : Bool) → test x ≡ b → (Stands z xs → Stands z (filter test xs)) → Stands z (x ∷ xs)
          → Stands z (filter test (x ∷ xs))
      by true here rest (inl one) = rw here (inl one)
      by true here rest (inr later) = rw here (inr (rest later))
      by false here rest (inl one) = absurd (false≢true (sym here ∙ ap test (sym one) ∙ passes))
      by false here rest (inr later) = rw here (rest later)

  all_passing : (P : X → Type 0) (xs : List X) → AllByRecursion P xs
      → AllByRecursion P (filter test xs)
  all_passing P [] all = tt
  all_passing P (x ∷ xs) all = by (test x) refl (all_passing P xs all.1)
    where
      by : (b : Bool) → test x ≡ b → AllByRecursion P (filter test xs)
          → AllByRecursion P (filter test (x ∷ xs))
      by true passes rest = rw passes (all.0, rest)
      by false fails rest = rw fails rest

  once_passing : (xs : List X) → AreOnce xs → AreOnce (filter test xs)
  once_passing [] once = tt
  once_passing (x ∷ xs) once =
      by (test x) refl (once_passing xs once.1) (all_passing (λ y. x ≡ y → ⊥) xs once.0)
    where
      by : (b : Bool) → test x ≡ b → AreOnce (filter test xs)
          → AllByRecursion (λ y. x ≡ y → ⊥) (filter test xs)
          → AreOnce (filter test (x ∷ xs))
      by true passes rest first = rw passes (first, rest)
      by false fails rest first = rw fails rest

  -- an odd number of the first list passes where the second has an odd number of items
  pub odd_if_passing : (xs ys : List X) → AreOnce xs → AreOnce ys
      → ((z : X) → Stands z xs → test z ≡ true → Stands z ys)
      → ((z : X) → Stands z ys → Stands z xs × (test z ≡ true))
      → is_odd_number test xs ≡ is_odd_number (λ x. true) ys
  odd_if_passing xs ys once once_ys there back =
      odd_of_passing xs
      ∙ sym (is_odd_number-permuted (λ x. true) (filter test xs) ys
      (permuted_if_same_members (filter test xs) ys (once_passing xs once) once_ys
      (λ z at. let both = stands_passing z xs at in there z both.0 both.1)
      (λ z at. let both = back z at in passing_stands z xs both.0 both.1)))
