-- A layer whose name has been looked at is noted, and stays noted when further names come.
use Rattle.std.proofs.Common.{◌≡◌, ℕ, Bool, true, false, cond, List, Option, Some, None, IfSome, refl, sym, ap, ◌∙◌, subst}
use Rattle.std.specs.Ordering.{nat_cmp, is_eq, ordering_then}
use Rattle.std.specs.Cmp.{ranked}
use Rattle.std.specs.declared.cmp.Ordering.{Ordering}
use Rattle.std.specs.declared.cmp.Ordering.TheVariants.{Less, Equal, Greater}
use Rattle.std.specs.BTreeMap.{BTreeMap, get}
use Rattle.std.proofs.lemmas.Bool.{false≢true}
use Rattle.sb_model.specs.Building.{Building, material_of}
use Rattle.sb_idf_out.specs.FirstUse.{has, with_new, number_in}
use Rattle.sb_idf_out.specs.Materials.{is_same_name}
use Rattle.sb_idf_out.specs.Steps.Names.{layer_cmp, IsNameNumber}
use Rattle.sb_idf_out.proofs.NumbersStay.{has_kept, number_kept, new_extends, has_new, number_new}
use Rattle.sb_idf_out.proofs.MaterialsGrow.{same_names}

tied : (a c : ℕ) (r : Ordering) → r ≡ nat_cmp a c → is_eq r ≡ true → a ≡ c
tied a c Less is same = absurd (false≢true same)
tied a c Equal is same = ranked a c Equal is
tied a c Greater is same = absurd (false≢true same)

-- two layers are one where they compare equal
one_layer : (a b c d : ℕ) (r : Ordering) → r ≡ nat_cmp a c
    → is_eq (ordering_then r (nat_cmp b d)) ≡ true → (a ≡ c) × (b ≡ d)
one_layer a b c d Less is same = absurd (false≢true same)
one_layer a b c d Equal is same = (ranked a c Equal is, tied b d (nat_cmp b d) refl same)
one_layer a b c d Greater is same = absurd (false≢true same)

some_more : (P Q : ℕ → Type 0) → ((n : ℕ) → P n → Q n) → (o : Option ℕ) → IfSome o P → IfSome o Q
some_more P Q more None all = tt
some_more P Q more (Some n) all = more n all

module _ (m : Building) (ns : List (List ℕ)) where
  -- further names change no number
  grown : (name : List ℕ) (element layer n : ℕ) → IsNameNumber m ns element layer n
      → IsNameNumber m (with_new is_same_name ns name) element layer n
  grown name element layer n is =
      let more = new_extends is_same_name ns name in
      let this = material_of m element layer in (
        ap (λ l. has is_same_name l this) more.1 ∙ has_kept is_same_name ns more.0 this is.0,
        is.1
            ∙ sym (ap (λ l. number_in is_same_name l this) more.1 ∙ number_kept is_same_name ns more.0 this is.0),
      )

  pub layer_noted : (element layer number : ℕ) (old new : BTreeMap (ℕ × ℕ) ℕ)
      → ((e l : ℕ) → IfSome (get layer_cmp old (e, l)) (IsNameNumber m ns e l))
      → ((q : ℕ × ℕ) → get layer_cmp new q
      ≡ cond (is_eq (layer_cmp (element, layer) q)) (Some number) (get layer_cmp old q))
      → number ≡ number_in is_same_name ns (material_of m element layer)
      → (e l : ℕ) → IfSome (get layer_cmp new (e, l))
      (IsNameNumber m (with_new is_same_name ns (material_of m element layer)) e l)
  layer_noted element layer number old new before updated is e l =
      subst (λ o. IfSome o (IsNameNumber m after e l)) (sym (updated (e, l)))
      (by (is_eq (layer_cmp (element, layer) (e, l))) refl)
    where
      after : List (List ℕ)
      after = with_new is_same_name ns (material_of m element layer)

      by : (b : Bool) → is_eq (layer_cmp (element, layer) (e, l)) ≡ b
          → IfSome (cond b (Some number) (get layer_cmp old (e, l)))
          (IsNameNumber m (with_new is_same_name ns (material_of m element layer)) e l)
      by true same =
          let one = one_layer element layer e l (nat_cmp element e) refl same in
          let name : material_of m element layer ≡ material_of m e l =
          λ i. material_of m (one.0 i) (one.1 i) in (
            ap (has is_same_name (with_new is_same_name ns (material_of m element layer))) (sym name)
                ∙ has_new is_same_name same_names ns (material_of m element layer),
            is
                ∙ (sym (number_new is_same_name same_names ns (material_of m element layer))
                ∙ ap (number_in is_same_name (with_new is_same_name ns (material_of m element layer))) name),
          )
      by false same =
          some_more (IsNameNumber m ns e l)
          (IsNameNumber m (with_new is_same_name ns (material_of m element layer)) e l)
          (λ n. grown (material_of m element layer) e l n) (get layer_cmp old (e, l)) (before e l)
