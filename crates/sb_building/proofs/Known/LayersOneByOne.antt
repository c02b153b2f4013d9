-- The layers of a set, read one after another.
use Rattle.std.proofs.Common.{◌≡◌, ℕ, ◌+◌, ◌<◌, ◌≤◌, suc, Bool, true, false, ◌&&◌, nat_le, nat_eq, unsigned_abs, List, [], ◌∷◌, ◌++◌, length, take, get_or, Option, Some, None, option_map, is_some, refl, sym, ap, ap₂, ◌∙◌, arith}
use Rattle.std.specs.Prelude.{if◌then◌else◌}
use Rattle.std.specs.Option.{option_map_or}
use Rattle.std.specs.List.{list_all}
use Rattle.std.proofs.lemmas.Bool.{false≢true}
use Rattle.std.proofs.lemmas.Bool.Decides.{Decides-eqb}
use Rattle.std.proofs.lemmas.List.{take_more, take_all, append-nil, length-take-le}
use Rattle.std.proofs.lemmas.List.Folds.{list_all_more, list_all_at}
use Rattle.sb_fraction.specs.declared.unit.Unit as units
use Rattle.sb_fixed.specs.Lengths.{micrometres_of}
use Rattle.sb_schema.specs.declared.entities.materials.Material.{Material}
use Rattle.sb_schema.specs.declared.entities.materials.MaterialLayer.{MaterialLayer}
use Rattle.sb_schema.specs.declared.entities.materials.MaterialLayerSet.{MaterialLayerSet}
use Rattle.sb_schema.specs.declared.entities.materials.MaterialLayerSetUsage.{MaterialLayerSetUsage}
use Rattle.sb_schema.specs.Table.{Values}
use Rattle.sb_model.specs.declared.layers.Layer.{Layer}
use Rattle.sb_model.specs.Building.{most_layers}
use Rattle.sb_profile.specs.Entities.{row_of}
use Rattle.sb_profile.specs.Entities.Entity.{material, material_layer, material_layer_set, material_layer_set_usage}
use Rattle.sb_profile.specs.Contents.{Contents}
use Rattle.sb_building.specs.Layerings.{is_thickness, is_layer, layer, layer_before, layers_from, name_of}
use Rattle.sb_building.specs.Steps.Materials.{IsThicknessOf, IsPushed, AreLayersOf}

-- ---- what is shown

-- what an instance gives, where a view shows it
pub shown_one : {V W : Type 0} (shown : Option V) (v : V) (given : Option W) (fields : V → W)
    → option_map fields shown ≡ given → shown ≡ Some v → given ≡ Some (fields v)
shown_one shown v given fields same is = sym same ∙ ap (option_map fields) is

pub shown_none : {V W : Type 0} (shown : Option V) (given : Option W) (fields : V → W)
    → option_map fields shown ≡ given → shown ≡ None → given ≡ None
shown_none shown given fields same is = sym same ∙ ap (option_map fields) is

pub shown_some : {V W : Type 0} (shown : Option V) (given : Option W) (fields : V → W)
    → option_map fields shown ≡ given → is_some shown ≡ is_some given
shown_some None given fields same = ap is_some same
shown_some (Some v) given fields same = ap is_some same

-- the fields of the views
abbrev pub of_material : Material → Values (row_of material).read
of_material v = (v.a1, tt)

abbrev pub of_layer : MaterialLayer → Values (row_of material_layer).read
of_layer v = (v.a1, (v.a2, tt))

abbrev pub of_set : MaterialLayerSet → Values (row_of material_layer_set).read
of_set v = (v.a1, tt)

abbrev pub of_usage : MaterialLayerSetUsage → Values (row_of material_layer_set_usage).read
of_usage v = (v.a1, (v.a2, (v.a3, tt)))

-- a number that is not 0
pub not_zero : (m : ℕ) → (m ≡ 0 → ⊥) → nat_eq m 0 ≡ false
not_zero m some = by (nat_eq m 0) refl
  where
    by : (b : Bool) → nat_eq m 0 ≡ b → nat_eq m 0 ≡ false
    by true is = absurd (some ((Decides-eqb m 0).0 is))
    by false is = is

-- ---- names

pub name_given : (c : Contents) (number : Option ℕ) (n : ℕ) (name : List ℕ) → number ≡ Some n
    → c.given material n ≡ Some (name, tt) → name ≡ name_of c number
name_given c number n name is given =
    sym (ap (name_of c) is ∙ ap (λ o. option_map_or (λ v. v.0) o []) given)

pub name_not_given : (c : Contents) (number : Option ℕ) (n : ℕ) → number ≡ Some n
    → c.given material n ≡ None → [] ≡ name_of c number
name_not_given c number n is given =
    sym (ap (name_of c) is ∙ ap (λ o. option_map_or (λ v. v.0) o []) given)

-- ---- one layer more

module _ (c : Contents) (u : units.Unit) (index n : ℕ) (old : List Layer) where
  -- the instance is no layer
  pub no_layer : c.given material_layer n ≡ None → IsPushed c u index n old old false
  no_layer none = record {
    good_is = sym (ap (λ o. option_map_or (λ v. is_thickness (micrometres_of v.1.0 u)) o false) none);
    layers = λ is. absurd (false≢true is);
  }

  module _ (name : Option ℕ) (text : List ℕ) (given : c.given material_layer n ≡ Some (name, (text, tt))) where
    good : is_layer c u n ≡ is_thickness (micrometres_of text u)
    good = ap (λ o. option_map_or (λ v. is_thickness (micrometres_of v.1.0 u)) o false) given

    before : layer_before c u index (c.given material_layer n) []
        ≡ (if nat_eq (unsigned_abs (micrometres_of text u)) 0
        then []
        else layer index (name_of c name) (unsigned_abs (micrometres_of text u)) ∷ [])
    before = ap (λ o. layer_before c u index o []) given

    -- its thickness is out of range
    pub bad_layer : is_thickness (micrometres_of text u) ≡ false → IsPushed c u index n old old false
    bad_layer bad = record {
      good_is = sym (good ∙ bad);
      layers = λ is. absurd (false≢true is);
    }

    -- its thickness is 0
    pub dropped : IsThicknessOf (micrometres_of text u) (Some 0) → IsPushed c u index n old old true
    dropped (is, micro) = record {
      good_is = sym (good ∙ is);
      layers = λ _.
          sym (ap (λ ls. old ++ ls)
          (before ∙ ap (λ m. if nat_eq m 0 then [] else layer index (name_of c name) m ∷ []) (sym micro))
          ∙ append-nil old);
    }

    -- it stands behind the layers before it
    pub behind : (micro : ℕ) → IsThicknessOf (micrometres_of text u) (Some micro) → nat_eq micro 0 ≡ false
        → (called : List ℕ) → called ≡ name_of c name
        → IsPushed c u index n old (old ++ layer index called micro ∷ []) true
    behind micro (is, same) some called named = record {
      good_is = sym (good ∙ is);
      layers = λ _.
          ap (λ x. old ++ layer index x micro ∷ []) named
          ∙ sym (ap (λ ls. old ++ ls)
          (before
          ∙ ap (λ m. if nat_eq m 0 then [] else layer index (name_of c name) m ∷ []) (sym same)
          ∙ ap (λ b. if b then [] else layer index (name_of c name) micro ∷ []) some));
    }

-- ---- one member more

-- what stands behind stands behind
later : (c : Contents) (u : units.Unit) (index : ℕ) (o : Option (Option ℕ × (List ℕ × Unit {0})))
    (xs ys : List Layer) → layer_before c u index o (xs ++ ys) ≡ layer_before c u index o xs ++ ys
later c u index None xs ys = refl
later c u index (Some v) xs ys = by (nat_eq (unsigned_abs (micrometres_of v.1.0 u)) 0)
  where
    by : (b : Bool)
        → (if b then xs ++ ys else layer index (name_of c v.0) (unsigned_abs (micrometres_of v.1.0 u)) ∷ (xs ++ ys))
        ≡ (if b then xs else layer index (name_of c v.0) (unsigned_abs (micrometres_of v.1.0 u)) ∷ xs) ++ ys
    by true = refl
    by false = refl

layers_more : (c : Contents) (u : units.Unit) (index : ℕ) (ns : List ℕ) (n : ℕ)
    → layers_from c u index (ns ++ n ∷ [])
    ≡ layers_from c u index ns ++ layer_before c u (index + length ns) (c.given material_layer n) []
layers_more c u index [] n =
    let same : index ≡ index + 0 = omega arith in
    ap (λ k. layer_before c u k (c.given material_layer n) []) same
layers_more c u index (m ∷ ns) n =
    let same : suc index + length ns ≡ index + suc (length ns) = omega arith in
    ap (layer_before c u index (c.given material_layer m)) (layers_more c u (suc index) ns n)
    ∙ later c u index (c.given material_layer m) (layers_from c u (suc index) ns)
    (layer_before c u (suc index + length ns) (c.given material_layer n) [])
    ∙ ap (λ k. layers_from c u index (m ∷ ns) ++ layer_before c u k (c.given material_layer n) []) same

-- the layers of the first members, which are layers all
pub record AreLayersTo (c : Contents) (u : units.Unit) (ns : List ℕ) (count : ℕ) (layers : List Layer)
    : Type 0 where
  pub good : list_all (is_layer c u) (take count ns) ≡ true
  pub are : layers ≡ layers_from c u 1 (take count ns)

module _ (c : Contents) (u : units.Unit) (ns : List ℕ) where
  -- before any member
  pub layers_none : AreLayersTo c u ns 0 []
  layers_none = record { good = refl; are = refl }

  -- one more that is a layer
  pub layers_one_more : (place : ℕ) (old new : List Layer) → place < length ns → AreLayersTo c u ns place old
      → IsPushed c u (place + 1) (get_or ns place 0) old new true → AreLayersTo c u ns (place + 1) new
  layers_one_more place old new within so_far pushed = record {
    good =
        list_all_more (is_layer c u) ns place 0 within
        ∙ ap₂ (λ a b. a && b) so_far.good (sym pushed.good_is);
    are =
        pushed.layers refl
        ∙ ap (λ ls. ls ++ layer_before c u (place + 1) (c.given material_layer (get_or ns place 0)) []) so_far.are
        ∙ ap (λ k. layers_from c u 1 (take place ns)
        ++ layer_before c u k (c.given material_layer (get_or ns place 0)) []) count
        ∙ sym (layers_more c u 1 (take place ns) (get_or ns place 0))
        ∙ ap (layers_from c u 1) (sym (take_more ns place 0 within));
  }
    where
      count : place + 1 ≡ 1 + length (take place ns)
      count =
          let short : place ≤ length ns = omega arith in
          let same = length-take-le place ns short in
          omega arith

  -- one that is none
  pub layers_broken : (place : ℕ) (old new : List Layer) → place < length ns
      → IsPushed c u (place + 1) (get_or ns place 0) old new false → AreLayersOf c u ns None
  layers_broken place old new within pushed =
      ap (λ b. nat_le (length ns) most_layers && b)
      (list_all_at (is_layer c u) ns place 0 within (sym pushed.good_is))
      ∙ none (nat_le (length ns) most_layers)
    where
      none : (b : Bool) → (b && false) ≡ false
      none true = refl
      none false = refl

  -- too many
  pub layers_too_many : nat_le (length ns) most_layers ≡ false → AreLayersOf c u ns None
  layers_too_many many = ap (λ b. b && list_all (is_layer c u) ns) many

  -- and all of them
  pub layers_all : (count : ℕ) (layers : List Layer) → length ns ≤ count
      → nat_le (length ns) most_layers ≡ true → AreLayersTo c u ns count layers
      → AreLayersOf c u ns (Some layers)
  layers_all count layers long few so_far =
      let whole = take_all count ns long in (
        ap₂ (λ a b. a && b) few (ap (list_all (is_layer c u)) (sym whole) ∙ so_far.good),
        so_far.are ∙ ap (layers_from c u 1) whole,
      )
