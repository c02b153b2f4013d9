-- One boundary more: with a construction, and without.
use Rattle.std.proofs.Common.{◌≡◌, ℕ, ◌+◌, ◌<◌, Bool, true, false, ◌&&◌, List, [], ◌∷◌, ◌++◌, length, map, take, get_or, refl, sym, ap, ◌∙◌, subst}
use Rattle.std.specs.Prelude.{if◌then◌else◌}
use Rattle.std.specs.BTreeMap.{BTreeMap}
use Rattle.std.proofs.lemmas.Bool.{false≢true}
use Rattle.std.proofs.lemmas.List.{take_more}
use Rattle.sb_model.specs.declared.boundary.Boundary.{Boundary}
use Rattle.sb_model.specs.declared.walk.Item.{Item}
use Rattle.sb_model.specs.Building.{Building}
use Rattle.sb_idf_out.specs.declared.materials.Materials.{Materials}
use Rattle.sb_idf_out.specs.declared.uses.Uses.{Uses}
use Rattle.sb_idf_out.specs.FirstUse.{with_new, with_all, number_in}
use Rattle.sb_idf_out.specs.Materials.{Material, is_same_material, of_item, materials_of, is_top_level}
use Rattle.sb_idf_out.specs.Constructions.{construction_of, construction_number, has_items, has_construction}
use Rattle.sb_idf_out.specs.Constructions.{is_same_construction}
use Rattle.sb_idf_out.specs.Steps.Uses.{AreMaterials, AreUses, ConstructionsAre, with_materials}
use Rattle.sb_idf_out.specs.Steps.Uses.{with_construction, materials_after, constructions_after, numbers_used}
use Rattle.sb_idf_out.proofs.NumbersStay.{number_new}
use Rattle.sb_idf_out.proofs.MaterialsGrow.{same_constructions}
use Rattle.sb_idf_out.proofs.ListsAreSurveyed.{top_of, materials_push, constructions_push, numbers_push}

module _ (m : Building) (ms : List Material) (b : Boundary) where
  no_materials : has_construction b ≡ false → with_materials m ms b ≡ ms
  no_materials none = by (is_top_level b) b.walk.items none
    where
      by : (t : Bool) (is : List Item) → (t && has_items is) ≡ false
          → (if t then with_all is_same_material ms (map (of_item m) is) else ms) ≡ ms
      by false is none = refl
      by true [] none = refl
      by true (i ∷ is) none = absurd (false≢true (sym none))

  pub none_more : (cs : List (List ℕ)) (u : Uses) → has_construction b ≡ false → AreUses m ms cs u
      → AreUses m (with_materials m ms b) (with_construction m (with_materials m ms b) cs b) u
      × (0 ≡ construction_number m (with_materials m ms b)
      (with_construction m (with_materials m ms b) cs b) b)
  none_more cs u none before = (
    subst (λ l. AreUses m l (with_construction m (with_materials m ms b) cs b) u) (sym (no_materials none))
        (rw none before),
    rw none refl,
  )

  pub one_more : {K : Type 0} (cs : List (List ℕ)) (mats : Materials) (items : K → List ℕ)
      (made : BTreeMap K ℕ) (objects : List ℕ) (k : K) (n : ℕ) → has_construction b ≡ true
      → AreMaterials m (with_all is_same_material ms (materials_of m b)) mats
      → items k ≡ construction_of m (with_all is_same_material ms (materials_of m b)) b
      → ConstructionsAre (with_new is_same_construction cs (items k)) made items objects
      × (n ≡ number_in is_same_construction cs (items k))
      → (AreMaterials m (with_materials m ms b) mats
      × ConstructionsAre (with_construction m (with_materials m ms b) cs b) made items objects)
      × (n ≡ construction_number m (with_materials m ms b)
      (with_construction m (with_materials m ms b) cs b) b)
  one_more cs mats items made objects k n is materials keyed (numbered, number) =
      let next : with_materials m ms b ≡ with_all is_same_material ms (materials_of m b) =
      rw (top_of m b is) refl in
      let same : items k ≡ construction_of m (with_materials m ms b) b =
      keyed ∙ ap (λ l. construction_of m l b) (sym next) in
      let grown : with_construction m (with_materials m ms b) cs b
      ≡ with_new is_same_construction cs (construction_of m (with_materials m ms b) b) =
      rw is refl in
      let numbered_so : construction_number m (with_materials m ms b)
      (with_construction m (with_materials m ms b) cs b) b
      ≡ number_in is_same_construction (with_construction m (with_materials m ms b) cs b)
      (construction_of m (with_materials m ms b) b) =
      rw is refl in (
        (
          subst (λ l. AreMaterials m l mats) (sym next) materials,
          subst (λ l. ConstructionsAre l made items objects)
              (ap (with_new is_same_construction cs) same ∙ sym grown) numbered,
        ),
        number
            ∙ (ap (number_in is_same_construction cs) same
            ∙ (sym (number_new is_same_construction same_constructions cs
            (construction_of m (with_materials m ms b) b))
            ∙ (ap (λ l. number_in is_same_construction l (construction_of m (with_materials m ms b) b))
            (sym grown)
            ∙ sym numbered_so))),
      )

module _ (m : Building) (bs : List Boundary) (i : ℕ) (b : Boundary) (within : i < length bs)
    (is : b ≡ get_or bs i b) where
  so_far : take (i + 1) bs ≡ take i bs ++ b ∷ []
  so_far = take_more bs i b within ∙ ap (λ y. take i bs ++ y ∷ []) (sym is)

  pub uses_more : (u : Uses)
      → AreUses m (with_materials m (materials_after m [] (take i bs)) b)
      (with_construction m (with_materials m (materials_after m [] (take i bs)) b)
      (constructions_after m [] [] (take i bs)) b) u
      → AreUses m (materials_after m [] (take (i + 1) bs)) (constructions_after m [] [] (take (i + 1) bs)) u
  uses_more u now =
      subst (λ l. AreUses m (materials_after m [] l) (constructions_after m [] [] l) u) (sym so_far)
      (subst (λ l. AreUses m l (constructions_after m [] [] (take i bs ++ b ∷ [])) u)
      (sym (materials_push m [] (take i bs) b))
      (subst (λ l. AreUses m (with_materials m (materials_after m [] (take i bs)) b) l u)
      (sym (constructions_push m [] [] (take i bs) b)) now))

  pub numbers_more : numbers_used m [] [] (take (i + 1) bs)
      ≡ numbers_used m [] [] (take i bs)
      ++ construction_number m (with_materials m (materials_after m [] (take i bs)) b)
      (with_construction m (with_materials m (materials_after m [] (take i bs)) b)
      (constructions_after m [] [] (take i bs)) b) b ∷ []
  numbers_more = ap (numbers_used m [] []) so_far ∙ numbers_push m [] [] (take i bs) b
