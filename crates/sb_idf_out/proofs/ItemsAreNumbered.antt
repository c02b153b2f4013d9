-- The number of an item's material: of one that has a number, and of one more.
use Rattle.std.proofs.Common.{◌≡◌, ℕ, ℤ, suc, ◌+◌, true, false, List, [], ◌∷◌, ◌++◌, length, map, Some, None, sym, ap, ◌∙◌, subst, arith}
use Rattle.std.specs.List.{list_all}
use Rattle.std.specs.BTreeMap.{BTreeMap}
use Rattle.std.proofs.lemmas.List.{length-map}
use Rattle.sb_model.specs.Building.{Building}
use Rattle.sb_idf_out.specs.declared.names.Names.{Names}
use Rattle.sb_idf_out.specs.FirstUse.{has, with_new, number_in, in_order}
use Rattle.sb_idf_out.specs.Materials.{Material, is_same_name, is_same_material}
use Rattle.sb_idf_out.specs.Objects.{object_of}
use Rattle.sb_idf_out.specs.Steps.Tables.{IsNumbered, number_where}
use Rattle.sb_idf_out.specs.Steps.Names.{AreNames}
use Rattle.sb_idf_out.specs.Steps.Uses.{MaterialsAre, is_key_eq, key_cmp, keyed}
use Rattle.sb_idf_out.proofs.NumbersStay.{number_next, order_push}
use Rattle.sb_idf_out.proofs.TablesGrow.{number_some, none_absent}
use Rattle.sb_idf_out.proofs.TablesSeen.{with_known, with_more}
use Rattle.sb_idf_out.proofs.MaterialsGrow.{is_named, has_key, number_key, keys_kept, keys_new, all_kept, all_new}

module _ (m : Building) (ms : List Material) (x : Material) (numbers : BTreeMap (ℕ × ℤ) ℕ)
    (objects : List ℕ) (ns : List (List ℕ)) (all : list_all (is_named ns) ms ≡ true)
    (numbered : IsNumbered is_key_eq key_cmp (map (keyed ns) ms) numbers)
    (written : objects ≡ in_order object_of 1 ms) (names : Names) (name : ℕ) (t : ℤ) (n : ℕ)
    (named : AreNames m (with_new is_same_name ns x.name) names × (name ≡ number_in is_same_name ns x.name))
    (thick : t ≡ x.thickness) where
  key_is : (name, t) ≡ keyed ns x
  key_is = λ i. (named.1 i, thick i)

  has_it : has is_key_eq (map (keyed ns) ms) (name, t) ≡ has is_same_material ms x
  has_it = ap (has is_key_eq (map (keyed ns) ms)) key_is ∙ has_key ns ms x all

  pub material_known :
      ((ks : List (ℕ × ℤ)) → IsNumbered is_key_eq key_cmp ks numbers
      → Some n ≡ number_where is_key_eq ks (name, t))
      → MaterialsAre m (with_new is_same_material ms x) names numbers objects
      × (n ≡ number_in is_same_material ms x)
  material_known found =
      let is =
      number_some is_key_eq (map (keyed ns) ms) (name, t) n
      (sym (found (map (keyed ns) ms) numbered)) in
      let there : has is_same_material ms x ≡ true = sym has_it ∙ is.0 in (
        subst (λ l. MaterialsAre m l names numbers objects) (sym (with_known is_same_material ms x there)) (
          with_new is_same_name ns x.name,
          named.0,
          all_kept ns ms x all,
          subst (λ l. IsNumbered is_key_eq key_cmp l numbers) (sym (keys_kept ns ms x all)) numbered,
          written,
        ),
        is.1 ∙ (ap (number_in is_key_eq (map (keyed ns) ms)) key_is ∙ number_key ns ms x all),
      )

  pub material_added : (new : BTreeMap (ℕ × ℤ) ℕ) (made : List ℕ)
      → ((ks : List (ℕ × ℤ)) → IsNumbered is_key_eq key_cmp ks numbers
      → None ≡ number_where is_key_eq ks (name, t))
      → ((ks : List (ℕ × ℤ)) → IsNumbered is_key_eq key_cmp ks numbers → n ≡ suc (length ks))
      → ((ks : List (ℕ × ℤ)) → IsNumbered is_key_eq key_cmp ks numbers
      → has is_key_eq ks (name, t) ≡ false → n ≡ suc (length ks)
      → IsNumbered is_key_eq key_cmp (ks ++ (name, t) ∷ []) new)
      → made ≡ objects ++ object_of n x
      → MaterialsAre m (with_new is_same_material ms x) names new made
      × (n ≡ number_in is_same_material ms x)
  material_added new made none next grown is_made =
      let absent = none_absent is_key_eq (map (keyed ns) ms) (name, t) (sym (none (map (keyed ns) ms) numbered)) in
      let missing : has is_same_material ms x ≡ false = sym has_it ∙ absent in
      let first = next (map (keyed ns) ms) numbered in
      let count : n ≡ suc (length ms) = first ∙ ap suc (length-map ms (keyed ns)) in
      let place : n ≡ 1 + length ms = omega arith in (
        subst (λ l. MaterialsAre m l names new made) (sym (with_more is_same_material ms x missing)) (
          with_new is_same_name ns x.name,
          named.0,
          all_new ns ms x all,
          subst (λ l. IsNumbered is_key_eq key_cmp l new)
              (sym (keys_new ns ms x all ∙ ap (λ k. map (keyed ns) ms ++ k ∷ []) (sym key_is)))
              (grown (map (keyed ns) ms) numbered absent first),
          is_made
              ∙ (ap (λ l. l ++ object_of n x) written ∙ sym (order_push object_of 1 ms x n place)),
        ),
        count ∙ sym (number_next is_same_material ms x missing),
      )
