-- What is known behind the last boundary is what the list says of its materials and constructions.
use Rattle.std.proofs.Common.{◌≡◌, ℕ, suc, ◌+◌, Bool, true, false, ◌&&◌, List, [], ◌∷◌, ◌++◌, length, map, is_none, refl, sym, ap, ◌∙◌, arith}
use Rattle.std.specs.Prelude.{filter, reverse, if◌then◌else◌}
use Rattle.std.specs.List.{flat_map, list_all}
use Rattle.std.proofs.Math.Nat.{suc-ne-zero}
use Rattle.std.proofs.lemmas.List.{append_assoc, append-nil}
use Rattle.sb_model.specs.declared.boundary.Boundary.{Boundary}
use Rattle.sb_model.specs.Building.{Building}
use Rattle.sb_idf_out.specs.FirstUse.{has, with_new, with_all, number_in, in_order}
use Rattle.sb_idf_out.specs.Materials.{Material, is_same_material, materials_of, is_top_level, all_materials}
use Rattle.sb_idf_out.specs.Constructions.{construction_of, is_same_construction, has_items}
use Rattle.sb_idf_out.specs.Constructions.{has_construction, construction_number, all_constructions}
use Rattle.sb_idf_out.specs.Objects.{object_under, boundary_object}
use Rattle.sb_idf_out.specs.Steps.Uses.{with_materials, with_construction, materials_after}
use Rattle.sb_idf_out.specs.Steps.Uses.{constructions_after, numbers_used}
use Rattle.sb_idf_out.specs.IdfText.{head, zones, objects_with, idf_text_of}
use Rattle.sb_idf_out.specs.Steps.Surfaces.{objects_by}
use Rattle.sb_idf_out.proofs.NumbersStay.{all_extends, new_extends, all-append, numbers_kept, number_kept}
use Rattle.sb_idf_out.proofs.NumbersStay.{has_all, has_new}
use Rattle.sb_idf_out.proofs.MaterialsGrow.{same_materials, same_constructions}

module _ (m : Building) where
  -- ---- one boundary more

  pub materials_push : (ms : List Material) (bs : List Boundary) (b : Boundary)
      → materials_after m ms (bs ++ b ∷ []) ≡ with_materials m (materials_after m ms bs) b
  materials_push ms [] b = refl
  materials_push ms (a ∷ bs) b = materials_push (with_materials m ms a) bs b

  pub constructions_push : (ms : List Material) (cs : List (List ℕ)) (bs : List Boundary) (b : Boundary)
      → constructions_after m ms cs (bs ++ b ∷ [])
      ≡ with_construction m (with_materials m (materials_after m ms bs) b) (constructions_after m ms cs bs) b
  constructions_push ms cs [] b = refl
  constructions_push ms cs (a ∷ bs) b =
      let next = with_materials m ms a in
      constructions_push next (with_construction m next cs a) bs b

  pub numbers_push : (ms : List Material) (cs : List (List ℕ)) (bs : List Boundary) (b : Boundary)
      → numbers_used m ms cs (bs ++ b ∷ [])
      ≡ numbers_used m ms cs bs
      ++ construction_number m (with_materials m (materials_after m ms bs) b)
      (with_construction m (with_materials m (materials_after m ms bs) b) (constructions_after m ms cs bs) b)
      b ∷ []
  numbers_push ms cs [] b = refl
  numbers_push ms cs (a ∷ bs) b =
      let next = with_materials m ms a in
      let made = with_construction m next cs a in
      ap (λ l. construction_number m next made a ∷ l) (numbers_push next made bs b)

  pub numbers_length : (ms : List Material) (cs : List (List ℕ)) (bs : List Boundary)
      → length (numbers_used m ms cs bs) ≡ length bs
  numbers_length ms cs [] = refl
  numbers_length ms cs (a ∷ bs) =
      let next = with_materials m ms a in
      ap suc (numbers_length next (with_construction m next cs a) bs)

  -- ---- lists grow at their ends

  materials_extend : (ms : List Material) (b : Boundary)
      → (more : List Material) × (with_materials m ms b ≡ ms ++ more)
  materials_extend ms b = by (is_top_level b)
    where
      by : (t : Bool) → (more : List Material)
          × ((if t then with_all is_same_material ms (materials_of m b) else ms) ≡ ms ++ more)
      by true = all_extends is_same_material ms (materials_of m b)
      by false = ([], sym (append-nil ms))

  after_extends : (ms : List Material) (bs : List Boundary)
      → (more : List Material) × (materials_after m ms bs ≡ ms ++ more)
  after_extends ms [] = ([], sym (append-nil ms))
  after_extends ms (b ∷ bs) =
      let one = materials_extend ms b in
      let rest = after_extends (with_materials m ms b) bs in
      (one.0 ++ rest.0, rest.1 ∙ (ap (λ l. l ++ rest.0) one.1 ∙ append_assoc ms one.0 rest.0))

  made_extends : (ms : List Material) (cs : List (List ℕ)) (b : Boundary)
      → (more : List (List ℕ)) × (with_construction m ms cs b ≡ cs ++ more)
  made_extends ms cs b = by (has_construction b)
    where
      by : (t : Bool) → (more : List (List ℕ))
          × ((if t then with_new is_same_construction cs (construction_of m ms b) else cs) ≡ cs ++ more)
      by true = new_extends is_same_construction cs (construction_of m ms b)
      by false = ([], sym (append-nil cs))

  all_made_extend : (ms : List Material) (cs : List (List ℕ)) (bs : List Boundary)
      → (more : List (List ℕ)) × (constructions_after m ms cs bs ≡ cs ++ more)
  all_made_extend ms cs [] = ([], sym (append-nil cs))
  all_made_extend ms cs (b ∷ bs) =
      let next = with_materials m ms b in
      let one = made_extends next cs b in
      let rest = all_made_extend next (with_construction m next cs b) bs in
      (one.0 ++ rest.0, rest.1 ∙ (ap (λ l. l ++ rest.0) one.1 ∙ append_assoc cs one.0 rest.0))

  -- ---- a construction stays when materials are put behind its own

  construction_kept : (ms : List Material) (b : Boundary) (bs : List Boundary) → is_top_level b ≡ true
      → construction_of m (materials_after m (with_materials m ms b) bs) b
      ≡ construction_of m (with_materials m ms b) b
  construction_kept ms b bs top =
      let more = after_extends (with_materials m ms b) bs in
      ap (λ l. construction_of m l b) more.1
      ∙ ap reverse (numbers_kept is_same_material (with_materials m ms b) more.0 (materials_of m b) (by top))
    where
      by : is_top_level b ≡ true
          → list_all (λ x. has is_same_material (with_materials m ms b) x) (materials_of m b) ≡ true
      by is = rw is (has_all is_same_material same_materials ms (materials_of m b))

  pub top_of : (b : Boundary) → has_construction b ≡ true → is_top_level b ≡ true
  top_of b is = by (is_top_level b) is
    where
      by : (t : Bool) → (t && has_items b.walk.items) ≡ true → t ≡ true
      by true both = refl
      by false both = both

  has_made : (ms : List Material) (cs : List (List ℕ)) (b : Boundary) → has_construction b ≡ true
      → has is_same_construction (with_construction m (with_materials m ms b) cs b)
      (construction_of m (with_materials m ms b) b) ≡ true
  has_made ms cs b is =
      rw is
      (has_new is_same_construction same_constructions cs (construction_of m (with_materials m ms b) b))

  number_is : (ms : List Material) (cs : List (List ℕ)) (b : Boundary) (bs : List Boundary)
      → construction_number m (with_materials m ms b)
      (with_construction m (with_materials m ms b) cs b) b
      ≡ construction_number m (materials_after m (with_materials m ms b) bs)
      (constructions_after m (with_materials m ms b)
      (with_construction m (with_materials m ms b) cs b) bs) b
  number_is ms cs b bs = by (has_construction b) refl
    where
      by : (t : Bool) → has_construction b ≡ t
          → (if t then number_in is_same_construction (with_construction m (with_materials m ms b) cs b) (construction_of m (with_materials m ms b) b) else 0)
          ≡ (if t then number_in is_same_construction (constructions_after m (with_materials m ms b) (with_construction m (with_materials m ms b) cs b) bs)
          (construction_of m (materials_after m (with_materials m ms b) bs) b) else 0)
      by true is =
          let more = all_made_extend (with_materials m ms b) (with_construction m (with_materials m ms b) cs b) bs in
          sym (ap (λ c. number_in is_same_construction (constructions_after m (with_materials m ms b) (with_construction m (with_materials m ms b) cs b) bs) c)
          (construction_kept ms b bs (top_of b is))
          ∙ (ap (λ l. number_in is_same_construction l (construction_of m (with_materials m ms b) b)) more.1
          ∙ number_kept is_same_construction (with_construction m (with_materials m ms b) cs b) more.0 (construction_of m (with_materials m ms b) b) (has_made ms cs b is)))
      by false is = refl

  -- ---- the whole list

  pub materials_are : (ms : List Material) (bs : List Boundary)
      → materials_after m ms bs
      ≡ with_all is_same_material ms (flat_map (materials_of m) (filter is_top_level bs))
  materials_are ms [] = refl
  materials_are ms (b ∷ bs) = by (is_none b.parent) (λ l. materials_are l bs)
    where
      by : (t : Bool)
          → ((l : List Material) → materials_after m l bs
          ≡ with_all is_same_material l (flat_map (materials_of m) (filter is_top_level bs)))
          → materials_after m (if t then with_all is_same_material ms (materials_of m b) else ms) bs
          ≡ with_all is_same_material ms
          (flat_map (materials_of m) (if t then b ∷ filter is_top_level bs else filter is_top_level bs))
      by true rest =
          rest (with_all is_same_material ms (materials_of m b))
          ∙ sym (all-append is_same_material ms (materials_of m b)
          (flat_map (materials_of m) (filter is_top_level bs)))
      by false rest = rest ms

  pub constructions_are : (ms : List Material) (cs : List (List ℕ)) (bs : List Boundary)
      → constructions_after m ms cs bs
      ≡ with_all is_same_construction cs
      (map (construction_of m (materials_after m ms bs)) (filter has_construction bs))
  constructions_are ms cs [] = refl
  constructions_are ms cs (b ∷ bs) =
      by (has_construction b) refl (λ l. constructions_are (with_materials m ms b) l bs)
    where
      by : (t : Bool) → has_construction b ≡ t
          → ((l : List (List ℕ)) → constructions_after m (with_materials m ms b) l bs
          ≡ with_all is_same_construction l (map (construction_of m (materials_after m (with_materials m ms b) bs)) (filter has_construction bs)))
          → constructions_after m (with_materials m ms b)
          (if t then with_new is_same_construction cs (construction_of m (with_materials m ms b) b) else cs) bs
          ≡ with_all is_same_construction cs
          (map (construction_of m (materials_after m (with_materials m ms b) bs))
          (if t then b ∷ filter has_construction bs else filter has_construction bs))
      by true is rest =
          rest (with_new is_same_construction cs (construction_of m (with_materials m ms b) b))
          ∙ ap (λ c. with_all is_same_construction (with_new is_same_construction cs c)
          (map (construction_of m (materials_after m (with_materials m ms b) bs)) (filter has_construction bs)))
          (sym (construction_kept ms b bs (top_of b is)))
      by false is rest = rest cs

  pub numbers_are : (ms : List Material) (cs : List (List ℕ)) (bs : List Boundary)
      → numbers_used m ms cs bs
      ≡ map (construction_number m (materials_after m ms bs) (constructions_after m ms cs bs)) bs
  numbers_are ms cs [] = refl
  numbers_are ms cs (b ∷ bs) =
      let next = with_materials m ms b in
      let made = with_construction m next cs b in
      let first = number_is ms cs b bs in
      let rest = numbers_are next made bs in
      λ i. first i ∷ rest i

  -- ---- and its objects

  pub objects_are : (ms : List Material) (cs : List (List ℕ)) (id : ℕ) (bs : List Boundary)
      → objects_by m id (map (construction_number m ms cs) bs) bs ≡ in_order (boundary_object m ms cs) id bs
  objects_are ms cs id [] = refl
  objects_are ms cs id (b ∷ bs) =
      ap (λ l. boundary_object m ms cs id b ++ l) (objects_are ms cs (suc id) bs)

  pub objects_push : (id : ℕ) (ks : List ℕ) (bs : List Boundary) (k : ℕ) (b : Boundary) (n : ℕ)
      → length ks ≡ length bs → n ≡ id + length bs
      → objects_by m id (ks ++ k ∷ []) (bs ++ b ∷ [])
      ≡ objects_by m id ks bs ++ object_under m k n b b.parent
  objects_push id [] [] k b n each at =
      let here : id ≡ n = omega arith in
      append-nil (object_under m k id b b.parent) ∙ ap (λ j. object_under m k j b b.parent) here
  objects_push id [] (c ∷ bs) k b n each at = absurd (suc-ne-zero (length bs) (sym each))
  objects_push id (j ∷ ks) [] k b n each at = absurd (suc-ne-zero (length ks) each)
  objects_push id (j ∷ ks) (c ∷ bs) k b n each at =
      let rest : length ks ≡ length bs = omega arith in
      let further : n ≡ suc id + length bs = omega arith in
      ap (λ l. object_under m j id c c.parent ++ l) (objects_push (suc id) ks bs k b n rest further)
      ∙ sym (append_assoc (object_under m j id c c.parent) (objects_by m (suc id) ks bs)
      (object_under m k n b b.parent))

  -- so the objects are those of the text
  pub objects_of_list : (bs : List Boundary)
      → objects_with m (materials_after m [] bs) (constructions_after m [] [] bs) bs
      ≡ objects_with m (all_materials m bs) (all_constructions m (all_materials m bs) bs) bs
  objects_of_list bs =
      ap (λ cs. objects_with m (materials_after m [] bs) cs bs) (constructions_are [] [] bs)
      ∙ ap (λ ms. objects_with m ms (all_constructions m ms bs) bs) (materials_are [] bs)

  pub text_is : (bs : List Boundary)
      → (head ++ zones m) ++ objects_with m (all_materials m bs) (all_constructions m (all_materials m bs) bs) bs
      ≡ idf_text_of m bs
  unfolding idf_text_of
  text_is bs = refl
