-- Lists with one item more.
use Rattle.std.proofs.Common.{◌≡◌, ◌⊎◌, ℕ, ◌<◌, List, [], ◌∷◌, ◌++◌, sym, subst, inl, inr}
use Rattle.std.specs.List.{AllByRecursion}
use Rattle.theory_lists.specs.Members.{Stands}
use Rattle.theory_lists.proofs.Members.{all_stands, all_that_stand}
use Rattle.theory_lists.proofs.Blocks.{two-append, two_in_parts}
use Rattle.sb_building.specs.Steps.Order.{Rise}

-- an item of it is one of the list, or the last
pub either : {X : Type 0} (x y : X) (xs : List X) → Stands x (xs ++ y ∷ []) → Stands x xs ⊎ (x ≡ y)
either x y [] (inl same) = inr same
either x y [] (inr none) = absurd none
either x y (z ∷ xs) (inl same) = inl (inl same)
either x y (z ∷ xs) (inr later) = onward (either x y xs later)
  where
    onward : Stands x xs ⊎ (x ≡ y) → Stands x (z ∷ xs) ⊎ (x ≡ y)
    onward (inl at) = inl (inr at)
    onward (inr same) = inr same

module _ {X Y : Type 0} (f : X → ℕ) (g : Y → ℕ) where
  -- items that have the numbers of others, which rise, rise too with one more
  pub rises_with : (xs : List X) (x : X) (ys : List Y) (y : Y) → Rise f (xs ++ x ∷ []) → Rise g ys
      → ((z : Y) → Stands z ys → (w : X) × Stands w xs × (f w ≡ g z)) → g y ≡ f x → Rise g (ys ++ y ∷ [])
  rises_with xs x ys y rise rise_ys from same =
      two-append (λ a b. g a < g b) ys (y ∷ []) rise_ys (tt, tt)
      (all_that_stand (λ z. AllByRecursion (λ b. g z < g b) (y ∷ [])) ys below)
    where
      below : (z : Y) → Stands z ys → (g z < g y) × Unit {0}
      below z at =
          let (w, among, is) = from z at in
          let less : f w < f x =
          (all_stands (λ v. AllByRecursion (λ b. f v < f b) (x ∷ [])) w xs
          (two_in_parts (λ a b. f a < f b) xs (x ∷ []) rise).1 among).0 in
          (subst (λ n. n < g y) is (subst (λ m. f w < m) (sym same) less), tt)

-- and the first of them rise
pub first_rise : {X : Type 0} (f : X → ℕ) (xs : List X) (x : X) → Rise f (xs ++ x ∷ []) → Rise f xs
first_rise f xs x rise = (two_in_parts (λ a b. f a < f b) xs (x ∷ []) rise).0.0
