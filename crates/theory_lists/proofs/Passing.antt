-- That all items of a list pass a test is a fact of each item.
use Rattle.std.proofs.Common.{◌≡◌, refl, Bool, true, List, [], ◌∷◌, reverse}
use Rattle.std.specs.List.{list_all, AllByRecursion}
use Rattle.std.proofs.lemmas.Bool.{and_parts, and_from}
use Rattle.std.proofs.lemmas.List.Sorted.{IsPermutation-reverse}
use Rattle.theory_lists.specs.Members.{Stands}
use Rattle.theory_lists.proofs.InAnyOrder.{all_permuted}
use Rattle.theory_lists.proofs.Members.{all_stands}

module _ {X : Type 0} (test : X → Bool) where
  -- each item passes
  pub each_passes : (xs : List X) → list_all test xs ≡ true → AllByRecursion (λ x. test x ≡ true) xs
  each_passes [] all = tt
  each_passes (x ∷ xs) all =
      let parts = and_parts (test x) (list_all test xs) all in
      (parts.0, each_passes xs parts.1)

  -- where each item passes, all do
  pub all_pass : (xs : List X) → AllByRecursion (λ x. test x ≡ true) xs → list_all test xs ≡ true
  all_pass [] each = refl
  all_pass (x ∷ xs) each = and_from (test x) (list_all test xs) each.0 (all_pass xs each.1)

  -- one that stands in the list passes
  pub passes_if_all : (x : X) (xs : List X) → list_all test xs ≡ true → Stands x xs
      → test x ≡ true
  passes_if_all x xs all stands =
      all_stands (λ y. test y ≡ true) x xs (each_passes xs all) stands

  -- the items in reverse order pass too
  pub all_pass-reverse : (xs : List X) → list_all test xs ≡ true → list_all test (reverse xs) ≡ true
  all_pass-reverse xs all =
      all_pass (reverse xs)
      (all_permuted (λ x. test x ≡ true) xs (reverse xs) (IsPermutation-reverse xs)
      (each_passes xs all))
