-- What holds of all items of a list holds of one that stands in it; two items are one, or stand at
-- different places; what a list has at a place stands in it; where some item passes a test there is
-- one.
use Rattle.std.proofs.Common.{◌≡◌, refl, sym, ap, ◌∙◌, inl, inr, ◌⊎◌, subst, List, [], ◌∷◌, map}
use Rattle.std.proofs.Common.{Bool, true}
use Rattle.std.proofs.Common.{ℕ, zero, suc, Some, slice_get}
use Rattle.std.specs.List.{AllByRecursion, list_any}
use Rattle.std.proofs.lemmas.Bool.{or_left, or_right, or_cases, false≢true}
use Rattle.std.proofs.lemmas.Option.{same_Some, none-some}
use Rattle.theory_lists.specs.Members.{Stands, AllOfTwo}

module _ {X : Type 0} where
  -- what holds of all holds of one that stands there
  pub all_stands : (P : X → Type 0) (x : X) (xs : List X) → AllByRecursion P xs → Stands x xs → P x
  all_stands P x [] all stands = absurd stands
  all_stands P x (y ∷ ys) all (inl same) = subst P (sym same) all.0
  all_stands P x (y ∷ ys) all (inr later) = all_stands P x ys all.1 later

  -- what follows for each item holds of all
  pub all_follow : {P Q : X → Type 0} → ((x : X) → P x → Q x) → (xs : List X)
      → AllByRecursion P xs → AllByRecursion Q xs
  all_follow step [] all = tt
  all_follow step (x ∷ xs) all = (step x all.0, all_follow step xs all.1)

  -- what holds of each one that stands there holds of all
  pub all_that_stand : (P : X → Type 0) (xs : List X) → ((x : X) → Stands x xs → P x)
      → AllByRecursion P xs
  all_that_stand P [] each = tt
  all_that_stand P (x ∷ xs) each =
      (each x (inl refl), all_that_stand P xs (λ y later. each y (inr later)))

  -- two that hold of all hold together
  pub all_both : (P Q : X → Type 0) (xs : List X) → AllByRecursion P xs → AllByRecursion Q xs
      → AllByRecursion (λ x. P x × Q x) xs
  all_both P Q [] first second = tt
  all_both P Q (x ∷ xs) first second =
      ((first.0, second.0), all_both P Q xs first.1 second.1)

  -- what holds of all images holds of the items, in this form
  pub all_of_images : {Y : Type 0} (P : Y → Type 0) (f : X → Y) (xs : List X)
      → AllByRecursion P (map f xs) → AllByRecursion (λ x. P (f x)) xs
  all_of_images P f [] all = tt
  all_of_images P f (x ∷ xs) all = (all.0, all_of_images P f xs all.1)

  -- and the other way round
  pub all_images : {Y : Type 0} (P : Y → Type 0) (f : X → Y) (xs : List X)
      → AllByRecursion (λ x. P (f x)) xs → AllByRecursion P (map f xs)
  all_images P f [] all = tt
  all_images P f (x ∷ xs) all = (all.0, all_images P f xs all.1)

  -- what follows for each two that stand there holds of each two
  pub two_follow : (R S : X → X → Type 0) (xs : List X)
      → ((x y : X) → Stands x xs → Stands y xs → R x y → S x y)
      → AllOfTwo R xs → AllOfTwo S xs
  two_follow R S [] step all = tt
  two_follow R S (x ∷ xs) step all = (
    all_that_stand (S x) xs
        (λ y at. step x y (inl refl) (inr at) (all_stands (R x) y xs all.0 at)),
    two_follow R S xs (λ y z at_y at_z. step y z (inr at_y) (inr at_z)) all.1,
  )

  -- what holds of each two images holds of each two items, in this form
  pub two_of_images : {Y : Type 0} (R : Y → Y → Type 0) (f : X → Y) (xs : List X)
      → AllOfTwo R (map f xs) → AllOfTwo (λ x y. R (f x) (f y)) xs
  two_of_images R f [] all = tt
  two_of_images R f (x ∷ xs) all =
      (all_of_images (R (f x)) f xs all.0, two_of_images R f xs all.1)

  -- two that stand there are one, or the relation holds of them one way round
  pub one_or_two : (R : X → X → Type 0) (x y : X) (xs : List X) → AllOfTwo R xs
      → Stands x xs → Stands y xs → (x ≡ y) ⊎ (R x y ⊎ R y x)
  one_or_two R x y [] all at_x at_y = absurd at_x
  one_or_two R x y (z ∷ zs) all (inl same) (inl same_y) = inl (same ∙ sym same_y)
  one_or_two R x y (z ∷ zs) all (inl same) (inr later) =
      inr (inl (subst (λ w. R w y) (sym same) (all_stands (R z) y zs all.0 later)))
  one_or_two R x y (z ∷ zs) all (inr later) (inl same) =
      inr (inr (subst (λ w. R w x) (sym same) (all_stands (R z) x zs all.0 later)))
  one_or_two R x y (z ∷ zs) all (inr later) (inr later_y) =
      one_or_two R x y zs all.1 later later_y

  -- what a list has at a place stands in it
  pub stands_at : (xs : List X) (i : ℕ) (x : X) → slice_get xs i ≡ Some x → Stands x xs
  stands_at [] zero x at = absurd (none-some x at)
  stands_at [] (suc i) x at = absurd (none-some x at)
  stands_at (y ∷ ys) zero x at = inl (sym (same_Some y x at))
  stands_at (y ∷ ys) (suc i) x at = inr (stands_at ys i x at)

  -- some item passes the test where one that stands there does
  pub any_stands : (test : X → Bool) (x : X) (xs : List X) → Stands x xs → test x ≡ true
      → list_any test xs ≡ true
  any_stands test x [] stands passes = absurd stands
  any_stands test x (y ∷ ys) (inl same) passes =
      or_left (test y) (list_any test ys) (ap test (sym same) ∙ passes)
  any_stands test x (y ∷ ys) (inr later) passes =
      or_right (test y) (list_any test ys) (any_stands test x ys later passes)

  -- and where some item does, it is one that stands there
  pub one_of_any : (test : X → Bool) (xs : List X) → list_any test xs ≡ true
      → (x : X) × (Stands x xs × (test x ≡ true))
  one_of_any test [] some = absurd (false≢true some)
  one_of_any test (x ∷ xs) some =
      from (or_cases (test x) (list_any test xs) some) (one_of_any test xs)
    where
      later : (y : X) × (Stands y xs × (test y ≡ true))
          → (y : X) × (Stands y (x ∷ xs) × (test y ≡ true))
      later (y, known) = (y, (inr known.0, known.1))

      from : (test x ≡ true) ⊎ (list_any test xs ≡ true)
          → (list_any test xs ≡ true → (y : X) × (Stands y xs × (test y ≡ true)))
          → (y : X) × (Stands y (x ∷ xs) × (test y ≡ true))
      from (inl passes) rest = (x, (inl refl, passes))
      from (inr there) rest = later (rest there)
