-- The products of a file make its model.
use Rattle.std.proofs.Common.{◌≡◌, ◌↔◌, ℕ, ℤ, Bool, true, List, [], ◌∷◌, map, refl, sym, ap, subst, inl, inr}
use Rattle.theory_lists.specs.Members.{Stands}
use Rattle.sb_step.specs.Indexed.{Indexed}
use Rattle.sb_model.specs.declared.products.Space.{Space}
use Rattle.sb_model.specs.declared.products.Element.{Element}
use Rattle.sb_model.specs.declared.products.Opening.{Opening}
use Rattle.sb_model.specs.declared.products.Filling.{Filling}
use Rattle.sb_profile.specs.Contents.{Contents}
use Rattle.sb_profile.specs.Products.{is_space, is_element, is_opening, is_filling}
use Rattle.sb_building.specs.declared.lists.assembled.Parts.{Parts}
use Rattle.sb_building.specs.Models.{IsModelBy, IsSpaceOf, IsElementOf, IsOpeningOf, IsFillingOf}
use Rattle.sb_building.specs.Steps.Parts.{AreOf, AreParts, model_with}

module _ {X : Type 0} (number : X → ℕ) where
  of_image : (n : ℕ) (xs : List X) → Stands n (map number xs) → (x : X) × Stands x xs × (number x ≡ n)
  of_image n [] none = absurd none
  of_image n (x ∷ xs) (inl same) = (x, inl refl, sym same)
  of_image n (x ∷ xs) (inr later) = let (y, at, is) = of_image n xs later in (y, inr at, is)

  image : (x : X) (xs : List X) → Stands x xs → Stands (number x) (map number xs)
  image x [] none = absurd none
  image x (y ∷ xs) (inl same) = inl (ap number same)
  image x (y ∷ xs) (inr later) = inr (image x xs later)

  -- the numbers of all that pass a test are those that pass it
  numbers_are : (test : ℕ → Bool) (Is : X → Type 0) (xs : List X) → AreOf number test Is xs
      → (n : ℕ) → Stands n (map number xs) ↔ (test n ≡ true)
  numbers_are test Is xs are n = (there, back)
    where
      there : Stands n (map number xs) → test n ≡ true
      there stands =
          let (x, at, is) = of_image n xs stands in
          subst (λ k. test k ≡ true) is (are.sound x at).0

      back : test n ≡ true → Stands n (map number xs)
      back passes =
          let (x, at, is) = are.complete n passes in
          subst (λ k. Stands k (map number xs)) is (image x xs at)

pub parts_make_models : (i : Indexed) (c : Contents) (p : Parts) (ground : ℤ) (reach : ℕ) → AreParts i c p
    → IsModelBy i c ground reach (model_with p ground reach)
parts_make_models i c p ground reach are = record {
  unit = are.unit_is;
  ground_is = refl;
  reach_is = refl;
  spaces = numbers_are (λ (s : Space). s.number) (is_space c) (IsSpaceOf i c p.unit) p.spaces are.spaces_are;
  elements =
      numbers_are (λ (e : Element). e.number) (is_element c) (IsElementOf i c p.unit) p.elements
      are.elements_are;
  openings =
      numbers_are (λ (o : Opening). o.number) (is_opening c) (IsOpeningOf i c p.unit) p.openings
      are.openings_are;
  fillings =
      numbers_are (λ (f : Filling). f.number) (is_filling c) (IsFillingOf c) p.fillings are.fillings_are;
  each_space = λ s at. (are.spaces_are.sound s at).1;
  each_element = λ e at. (are.elements_are.sound e at).1;
  each_opening = λ o at. (are.openings_are.sound o at).1;
  each_filling = λ f at. (are.fillings_are.sound f at).1;
}
