-- One material more, under the number of its name.
use Rattle.std.proofs.Common.{◌≡◌, ℕ, Bool, true, false, ◌&&◌, List, [], ◌∷◌, ◌++◌, map, refl, ap, ◌∙◌}
use Rattle.std.specs.Ordering.{int_eq}
use Rattle.std.specs.Cmp.{IsEquivalence}
use Rattle.std.specs.List.{list_all}
use Rattle.std.proofs.lemmas.Bool.{false≢true}
use Rattle.std.proofs.lemmas.Cmp.{and_equiv, on_equiv, lists_equiv, nat_eq_equiv, int_eq_equiv}
use Rattle.std.proofs.lemmas.List.{map-append}
use Rattle.std.proofs.lemmas.List.Folds.{list_all-append}
use Rattle.sb_idf_out.specs.FirstUse.{has, with_new, number_in}
use Rattle.sb_idf_out.specs.Materials.{Material, is_same_name, is_same_material}
use Rattle.sb_idf_out.specs.Constructions.{is_same_construction}
use Rattle.sb_idf_out.specs.Steps.Uses.{is_key_eq, keyed}
use Rattle.sb_idf_out.proofs.NumbersStay.{number_kept, has_kept, has_new, number_new, new_extends}
use Rattle.sb_idf_out.proofs.NumbersTell.{numbers_tell, has_mapped, number_mapped}

pub same_names : IsEquivalence is_same_name
same_names = lists_equiv nat_eq_equiv

pub same_constructions : IsEquivalence is_same_construction
same_constructions = lists_equiv nat_eq_equiv

pub same_materials : IsEquivalence is_same_material
same_materials = and_equiv (on_equiv (λ x. x.name) same_names) (on_equiv (λ x. x.thickness) int_eq_equiv)

-- the name of a material is among these
abbrev pub is_named : List (List ℕ) → Material → Bool
is_named ns x = has is_same_name ns x.name

module _ (ns more : List (List ℕ)) where
  pub named_kept : (ms : List Material) → list_all (is_named ns) ms ≡ true
      → list_all (is_named (ns ++ more)) ms ≡ true
  named_kept [] all = refl
  named_kept (x ∷ ms) all = by (is_named ns x) refl all (named_kept ms)
    where
      by : (b : Bool) → is_named ns x ≡ b → (b && list_all (is_named ns) ms) ≡ true
          → (list_all (is_named ns) ms ≡ true → list_all (is_named (ns ++ more)) ms ≡ true)
          → (is_named (ns ++ more) x && list_all (is_named (ns ++ more)) ms) ≡ true
      by true is both rest = rw (has_kept is_same_name ns more x.name is) (rest both)
      by false is both rest = absurd (false≢true both)

  pub keyed_kept : (ms : List Material) → list_all (is_named ns) ms ≡ true
      → map (keyed (ns ++ more)) ms ≡ map (keyed ns) ms
  keyed_kept [] all = refl
  keyed_kept (x ∷ ms) all = by (is_named ns x) refl all (keyed_kept ms)
    where
      by : (b : Bool) → is_named ns x ≡ b → (b && list_all (is_named ns) ms) ≡ true
          → (list_all (is_named ns) ms ≡ true → map (keyed (ns ++ more)) ms ≡ map (keyed ns) ms)
          → keyed (ns ++ more) x ∷ map (keyed (ns ++ more)) ms ≡ keyed ns x ∷ map (keyed ns) ms
      by true is both rest =
          λ i. (number_kept is_same_name ns more x.name is i, x.thickness) ∷ rest both i
      by false is both rest = absurd (false≢true both)

module _ (ns : List (List ℕ)) (ms : List Material) (x : Material)
    (all : list_all (is_named ns) ms ≡ true) where
  abbrev pub with_name : List (List ℕ)
  with_name = with_new is_same_name ns x.name

  alike : (y : Material) → is_named ns y ≡ true → is_key_eq (keyed ns x) (keyed ns y) ≡ is_same_material x y
  alike y is =
      ap (λ b. b && int_eq x.thickness y.thickness) (numbers_tell is_same_name same_names ns x.name y.name is)

  pub has_key : has is_key_eq (map (keyed ns) ms) (keyed ns x) ≡ has is_same_material ms x
  has_key = has_mapped is_same_material is_key_eq (keyed ns) (keyed ns x) x (is_named ns) alike ms all

  pub number_key : number_in is_key_eq (map (keyed ns) ms) (keyed ns x) ≡ number_in is_same_material ms x
  number_key =
      number_mapped is_same_material is_key_eq (keyed ns) (keyed ns x) x (is_named ns) alike ms all

  pub keys_kept : map (keyed with_name) ms ≡ map (keyed ns) ms
  keys_kept =
      let more = new_extends is_same_name ns x.name in
      ap (λ l. map (keyed l) ms) more.1 ∙ keyed_kept ns more.0 ms all

  pub all_kept : list_all (is_named with_name) ms ≡ true
  all_kept =
      let more = new_extends is_same_name ns x.name in
      ap (λ l. list_all (is_named l) ms) more.1 ∙ named_kept ns more.0 ms all

  -- the material itself
  pub keyed_new : keyed with_name x ≡ keyed ns x
  keyed_new = λ i. (number_new is_same_name same_names ns x.name i, x.thickness)

  pub keys_new : map (keyed with_name) (ms ++ x ∷ []) ≡ map (keyed ns) ms ++ keyed ns x ∷ []
  keys_new =
      map-append (keyed with_name) ms (x ∷ []) ∙ (λ i. keys_kept i ++ keyed_new i ∷ [])

  pub all_new : list_all (is_named with_name) (ms ++ x ∷ []) ≡ true
  all_new =
      list_all-append (is_named with_name) ms (x ∷ [])
      ∙ rw (all_kept, has_new is_same_name same_names ns x.name) refl
