-- Items by their numbers, one after another, and then in order.
use Rattle.std.proofs.Common.{◌≡◌, ◌⊎◌, ℕ, nat_eq, Bool, true, false, List, [], ◌∷◌, ◌++◌, Option, Some, None, refl, sym, ap, ◌∙◌, subst, inl, inr}
use Rattle.std.specs.Prelude.{if◌then◌else◌}
use Rattle.std.specs.Ordering.{nat_cmp}
use Rattle.std.specs.Map.{values_of}
use Rattle.std.specs.BTreeMap.{BTreeMap, get, IsOrdered}
use Rattle.std.proofs.lemmas.Bool.Decides.{Decides-eqb}
use Rattle.std.proofs.lemmas.Option.{same_Some}
use Rattle.theory_lists.specs.Members.{Stands}
use Rattle.theory_lists.proofs.Blocks.{stands_before, stands_behind}
use Rattle.sb_building.specs.Steps.Order.{HasEach, AreInOrder}
use Rattle.sb_building.proofs.Conditions.OneMore.{either}
use Rattle.sb_building.proofs.ListsOfProducts.EntriesInOrder.{value_stands, entry_of_value, found_stands, stands_found, values_rise}

module _ {X : Type 0} (number : X → ℕ) where
  -- before any item
  pub has_none : (found : ℕ → Option X) → ((q : ℕ) → found q ≡ None) → HasEach number [] found
  has_none found none = record {
    sound = λ q x is. let both : None ≡ Some x = sym (none q) ∙ is in absurd (cc both);
    complete = λ x at. absurd at;
  }

  -- one item more
  pub has_more : (xs : List X) (x : X) (old new : ℕ → Option X) → HasEach number xs old
      → ((q : ℕ) → new q ≡ (if nat_eq q (number x) then Some x else old q)) → HasEach number (xs ++ x ∷ []) new
  has_more xs x old new has updates = record {
    sound = λ q y found. by_sound q y (nat_eq q (number x)) refl found;
    complete = λ y at. by_place y (either y x xs at);
  }
    where
      at_last : Stands x (xs ++ x ∷ [])
      at_last = stands_behind x xs (x ∷ []) (inl refl)

      by_sound : (q : ℕ) (y : X) (b : Bool) → nat_eq q (number x) ≡ b → new q ≡ Some y
          → Stands y (xs ++ x ∷ []) × (number y ≡ q)
      by_sound q y true same found =
          let is : x ≡ y =
          same_Some x y (sym (updates q ∙ ap (λ b. if b then Some x else old q) same) ∙ found) in (
            subst (λ z. Stands z (xs ++ x ∷ [])) is at_last,
            sym (ap number is) ∙ sym ((Decides-eqb q (number x)).0 same),
          )
      by_sound q y false apart found =
          let is : old q ≡ Some y =
          sym (updates q ∙ ap (λ b. if b then Some x else old q) apart) ∙ found in
          let (at, same) = has.sound q y is in
          (stands_before y xs (x ∷ []) at, same)

      by_complete : (q : ℕ) (b : Bool) → nat_eq q (number x) ≡ b → (y : X) × (old q ≡ Some y)
          → (y : X) × (new q ≡ Some y)
      by_complete q true same (y, is) =
          (x, updates q ∙ ap (λ b. if b then Some x else old q) same)
      by_complete q false apart (y, is) =
          (y, updates q ∙ ap (λ b. if b then Some x else old q) apart ∙ is)

      by_place : (y : X) → Stands y xs ⊎ (y ≡ x) → (z : X) × (new (number y) ≡ Some z)
      by_place y (inl at) = by_complete (number y) (nat_eq (number y) (number x)) refl (has.complete y at)
      by_place y (inr same) = (
        x,
        updates (number y)
            ∙ ap (λ b. if b then Some x else old (number y))
            ((Decides-eqb (number y) (number x)).1 (ap number same)),
      )

  -- the values of a map that has each of them
  pub in_order : (xs : List X) (m : BTreeMap ℕ X) → IsOrdered nat_cmp m → HasEach number xs (get nat_cmp m)
      → AreInOrder number xs (values_of m.entries)
  in_order xs m ordered has = record {
    rise = values_rise number m.entries ordered (λ k x at. (has.sound k x (stands_found m ordered k x at)).1);
    sound = λ y at.
        let (k, entry) = entry_of_value y m.entries at in
        (has.sound k y (stands_found m ordered k y entry)).0;
    complete = λ x at.
        let (y, found) = has.complete x at in (
          y,
          value_stands (number x) y m.entries (found_stands m (number x) y found),
          (has.sound (number x) y found).1,
        );
  }
