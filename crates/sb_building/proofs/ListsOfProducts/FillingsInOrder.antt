-- The doors and windows of a table are the fillings of the file.
use Rattle.std.proofs.Common.{◌≡◌, ℕ, ◌<◌, Bool, true, false, ◌&&◌, List, [], ◌∷◌, ◌++◌, Option, Some, None, is_some, refl, sym, ap, ap₂, ◌∙◌, subst, inl, inr, arith}
use Rattle.std.specs.List.{AllByRecursion}
use Rattle.std.specs.List.Sorted.{IsStrictlySortedBy}
use Rattle.std.specs.Ordering.{nat_cmp}
use Rattle.std.specs.declared.cmp.Ordering.TheVariants.{Less}
use Rattle.std.specs.Map.{keys_of}
use Rattle.std.specs.BTreeMap.{BTreeMap, get, IsOrdered}
use Rattle.std.proofs.lemmas.Bool.{and_parts}
use Rattle.std.proofs.lemmas.Map.Keys.{sorted_head, sorted_tail}
use Rattle.theory_lists.specs.Members.{Stands}
use Rattle.theory_lists.proofs.Blocks.{all-append, stands_before, stands_behind}
use Rattle.sb_model.specs.declared.products.Filling.{Filling}
use Rattle.sb_profile.specs.declared.reading.links.Link.{Link}
use Rattle.sb_profile.specs.Entities.Entity.{opening_filling}
use Rattle.sb_profile.specs.Contents.{Contents}
use Rattle.sb_profile.specs.Products.{is_filling, filling, opening_of}
use Rattle.sb_profile.specs.Steps.Read.{target_in}
use Rattle.sb_building.specs.Models.{IsFillingOf, kind_of}
use Rattle.sb_building.specs.Steps.Order.{Rise}
use Rattle.sb_building.specs.Steps.Parts.{AreOf, filling_as, filled_if, filled, all_filled}
use Rattle.sb_building.proofs.ListsOfProducts.EntriesInOrder.{found_stands, stands_found}
use Rattle.sb_building.proofs.ListsOfProducts.RelationsCount.{opening_there, filling_counts}

module _ (c : Contents) where
  -- a filling of the list is of an entry
  record IsOfEntry (es : List (ℕ × Link)) (f : Filling) : Type 0 where
    number : ℕ
    link : Link
    at : Stands {X = ℕ × Link} (number, link) es
    is : f ≡ filling_as number link.target (kind_of c number)
    given : is_some (c.given opening_filling number) ≡ true

  later : (e : ℕ × Link) (es : List (ℕ × Link)) (f : Filling) → IsOfEntry es f → IsOfEntry (e ∷ es) f
  later e es f of = record {
    number = of.number;
    link = of.link;
    at = inr of.at;
    is = of.is;
    given = of.given;
  }

  of_entry : (es : List (ℕ × Link)) (f : Filling) → Stands f (all_filled c es) → IsOfEntry es f
  of_entry [] f none = absurd none
  of_entry (e ∷ es) f at =
      by (is_some (c.given opening_filling e.0)) refl at (λ there. later e es f (of_entry es f there))
    where
      by : (b : Bool) → is_some (c.given opening_filling e.0) ≡ b
          → Stands f (filled_if b e.0 e.1.target (kind_of c e.0) ++ all_filled c es)
          → (Stands f (all_filled c es) → IsOfEntry (e ∷ es) f) → IsOfEntry (e ∷ es) f
      by true given (inl same) onward = record {
        number = e.0;
        link = e.1;
        at = inl refl;
        is = same;
        given = given;
      }
      by true given (inr there) onward = onward there
      by false none there onward = onward there

  -- an entry of a door or window is of a filling of the list
  entry_stands : (es : List (ℕ × Link)) (k : ℕ) (link : Link) → Stands {X = ℕ × Link} (k, link) es
      → is_some (c.given opening_filling k) ≡ true
      → Stands (filling_as k link.target (kind_of c k)) (all_filled c es)
  entry_stands [] k link none given = absurd none
  entry_stands (e ∷ es) k link (inr there) given =
      stands_behind (filling_as k link.target (kind_of c k)) (filled c e.0 e.1.target) (all_filled c es)
      (entry_stands es k link there given)
  entry_stands (e ∷ es) k link (inl same) given =
      stands_before (filling_as k link.target (kind_of c k)) (filled c e.0 e.1.target) (all_filled c es)
      (subst (λ p. Stands (filling_as k link.target (kind_of c k)) (filled c p.0 p.1.target)) same
      (subst (λ b. Stands (filling_as k link.target (kind_of c k))
      (filled_if b k link.target (kind_of c k))) (sym given) (inl refl)))

  -- the numbers rise as the keys do
  above : (n : ℕ) (es : List (ℕ × Link)) → AllByRecursion (λ y. nat_cmp n y ≡ Less) (keys_of es)
      → AllByRecursion (λ (f : Filling). n < f.number) (all_filled c es)
  above n [] all = tt
  above n (e ∷ es) (less, rest) =
      all-append (λ (f : Filling). n < f.number) (filled c e.0 e.1.target) (all_filled c es)
      (by (is_some (c.given opening_filling e.0))) (above n es rest)
    where
      below : (a b : ℕ) → nat_cmp a b ≡ Less → a < b
      below a b is = grind (arith)

      by : (b : Bool)
          → AllByRecursion (λ (f : Filling). n < f.number) (filled_if b e.0 e.1.target (kind_of c e.0))
      by true = (below n e.0 less, tt)
      by false = tt

  rise : (es : List (ℕ × Link)) → IsStrictlySortedBy nat_cmp (keys_of es)
      → Rise (λ (f : Filling). f.number) (all_filled c es)
  rise [] sorted = tt
  rise (e ∷ es) sorted =
      by (is_some (c.given opening_filling e.0)) (rise es (sorted_tail nat_cmp e.0 (keys_of es) sorted))
      (above e.0 es (sorted_head nat_cmp e.0 (keys_of es) sorted))
    where
      by : (b : Bool) → Rise (λ (f : Filling). f.number) (all_filled c es)
          → AllByRecursion (λ (f : Filling). e.0 < f.number) (all_filled c es)
          → Rise (λ (f : Filling). f.number) (filled_if b e.0 e.1.target (kind_of c e.0) ++ all_filled c es)
      by true rest all = (all, rest)
      by false rest all = rest

  module _ (m : BTreeMap ℕ Link) (ordered : IsOrdered nat_cmp m)
      (fills : (q : ℕ) → target_in (get nat_cmp m q) ≡ opening_of c q) where
    opening_is : (k : ℕ) (link : Link) → Stands {X = ℕ × Link} (k, link) m.entries
        → opening_of c k ≡ Some link.target
    opening_is k link at = sym (fills k) ∙ ap target_in (stands_found m ordered k link at)

    sound_of : (f : Filling) → IsOfEntry m.entries f → (is_filling c f.number ≡ true) × IsFillingOf c f
    sound_of f of =
        let opening = opening_is of.number of.link of.at in
        let moved = sym of.is in (
          subst (λ g. is_filling c g.number ≡ true) moved
              (ap₂ (λ a b. a && b) of.given (filling_counts c of.number of.link.target opening)),
          subst (IsFillingOf c) moved (record { opening = opening; kind = refl }),
        )

    complete_of : (n : ℕ) → is_filling c n ≡ true
        → (f : Filling) × Stands f (all_filled c m.entries) × (f.number ≡ n)
    complete_of n is =
        let parts = and_parts (is_some (c.given opening_filling n)) (is_some (filling c n)) is in
        let (o, opening) = opening_there c n parts.1 in
        by o (get nat_cmp m n) refl parts.0 (fills n ∙ opening)
      where
        by : (o : ℕ) (found : Option Link) → get nat_cmp m n ≡ found
            → is_some (c.given opening_filling n) ≡ true → target_in (get nat_cmp m n) ≡ Some o
            → (f : Filling) × Stands f (all_filled c m.entries) × (f.number ≡ n)
        by o None none given is_target =
            let both : None ≡ Some o = sym (ap target_in none) ∙ is_target in absurd (cc both)
        by o (Some link) some given is_target = (
          filling_as n link.target (kind_of c n),
          entry_stands m.entries n link (found_stands m n link some) given,
          refl,
        )

    pub are_fillings : AreOf (λ (f : Filling). f.number) (is_filling c) (IsFillingOf c) (all_filled c m.entries)
    are_fillings = record {
      rise = rise m.entries ordered;
      sound = λ f at. sound_of f (of_entry m.entries f at);
      complete = complete_of;
    }
