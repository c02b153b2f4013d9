-- What is read of material instances is what the file says of them.
use Rattle.std.proofs.Common.{◌≡◌, ◌≢◌, ℕ, Bool, true, false, not, ◌&&◌, ◌||◌, nat_le, List, [], length, Option, Some, None, option_map, Result, Ok, Err, refl, sym, ap, ◌∙◌, inl, inr}
use Rattle.std.specs.Prelude.{IfOk}
use Rattle.std.specs.Option.{option_map_or}
use Rattle.std.specs.List.{list_all}
use Rattle.sb_step.specs.Indexed.{Indexed}
use Rattle.sb_step.specs.Params.Parameters.{ParametersAreUnique}
use Rattle.sb_fraction.specs.declared.unit.Unit as units
use Rattle.theory_turns.specs.Turns.{Quarter}
use Rattle.sb_schema.specs.declared.error.ViewError.{ViewError}
use Rattle.sb_schema.specs.declared.error.ViewError.TheVariants as view_error
use Rattle.sb_schema.specs.Table.{Values}
use Rattle.sb_schema.specs.Views.{Taking, HasMemory, Views}
use Rattle.sb_schema.specs.Views.Taking.{with_memory, without_memory}
use Rattle.sb_model.specs.declared.layers.Layer.{Layer}
use Rattle.sb_model.specs.declared.layers.Layering.TheVariants.{Plain, Single}
use Rattle.sb_model.specs.Building.{most_layers}
use Rattle.sb_model.specs.Solids.{Upright}
use Rattle.sb_profile.specs.Entities.{Entity, row_of}
use Rattle.sb_profile.specs.Entities.Entity.{material, material_layer_set, material_layer_set_usage}
use Rattle.sb_profile.specs.Contents.{Contents, Says}
use Rattle.sb_building.specs.declared.made.Made.TheVariants as made
use Rattle.sb_building.specs.declared.made.Along.{Along}
use Rattle.sb_building.specs.Layerings.{Usage, is_layer, is_layer_set, layers_from, layers_of, number_of, sense_of, axis_by, number_at, axis_of_class, along, by_usage, by_set, is_bad_usage, has_bad_layers, layering_by, IsMadeOf}
use Rattle.sb_building.specs.Steps.Materials.{shown_of, are_layers, AreLayersOf, IsAlong}
use Rattle.sb_building.proofs.Followed.SeenWhereFollowed.{not_given_of_missing, not_given_of_other, not_given_of_unfit, given_is}

-- ---- views

has_memory : (taking : Taking) {V : Type 0} (r : Result V ViewError) → r ≢ Err view_error.NoMemory
    → HasMemory taking r
has_memory with_memory r other = other
has_memory without_memory r other = tt

module _ (unique : ParametersAreUnique) (taking : Taking) (e : Entity) {V : Type 0}
    (fields : V → Values (row_of e).read) (i : Indexed) (n : ℕ) (c : Contents) where
  pub given_by_views : (r : Result V ViewError) → Views taking (row_of e) fields i n r → Says i c
      → IfOk (shown_of r) (λ o. option_map fields o ≡ c.given e n)
  given_by_views (Ok v) views says =
      sym (given_is unique i c says e n (fields v)
      ((views.view (fields v) (has_memory taking (Ok v) (λ none. cc none))).0 refl))
  given_by_views (Err view_error.NoMemory) views says = tt
  given_by_views (Err (view_error.Missing m)) views says =
      sym (not_given_of_missing unique i c says e n
      ((views.missing m (has_memory taking (Err (view_error.Missing m)) (λ none. cc none))).0 refl).1)
  given_by_views (Err (view_error.Other m)) views says =
      sym (not_given_of_other unique i c says e n
      ((views.other m (has_memory taking (Err (view_error.Other m)) (λ none. cc none))).0 refl).1)
  given_by_views (Err (view_error.Fields m)) views says =
      sym (not_given_of_unfit unique i c says e n
      ((views.not_of_row m (has_memory taking (Err (view_error.Fields m)) (λ none. cc none))).0 refl).1)

-- ---- what an instance is

module _ (c : Contents) (u : units.Unit) (n : ℕ) where
  -- one material
  pub made_of_one : (name : List ℕ) → c.given material n ≡ Some (name, tt)
      → IsMadeOf c u (Some n) (Some (made.OneMaterial name))
  made_of_one name given = (
    ap (λ o. option_map_or (λ v. false) o
        (option_map_or (is_bad_usage c u) (c.given material_layer_set_usage n)
        (option_map_or (λ set. not (is_layer_set c u n)) (c.given material_layer_set n) false))) given,
    λ keyword prism turn.
        sym (ap (λ o. option_map_or (λ v. Single v.0) o
        (option_map_or (by_usage c u prism turn) (c.given material_layer_set_usage n)
        (option_map_or (λ set. by_set c u keyword prism turn n) (c.given material_layer_set n) Plain))) given),
  )

  module _ (no_material : c.given material n ≡ None) where
    bad_by : has_bad_layers c u (Some n)
        ≡ option_map_or (is_bad_usage c u) (c.given material_layer_set_usage n)
        (option_map_or (λ set. not (is_layer_set c u n)) (c.given material_layer_set n) false)
    bad_by =
        ap (λ o. option_map_or (λ v. false) o
        (option_map_or (is_bad_usage c u) (c.given material_layer_set_usage n)
        (option_map_or (λ set. not (is_layer_set c u n)) (c.given material_layer_set n) false))) no_material

    layering_is : (keyword : Option (List ℕ)) (prism : Upright) (turn : Quarter)
        → layering_by c u keyword prism turn (Some n)
        ≡ option_map_or (by_usage c u prism turn) (c.given material_layer_set_usage n)
        (option_map_or (λ set. by_set c u keyword prism turn n) (c.given material_layer_set n) Plain)
    layering_is keyword prism turn =
        ap (λ o. option_map_or (λ v. Single v.0) o
        (option_map_or (by_usage c u prism turn) (c.given material_layer_set_usage n)
        (option_map_or (λ set. by_set c u keyword prism turn n) (c.given material_layer_set n) Plain)))
        no_material

    -- ---- a usage

    module _ (v : Usage) (given : c.given material_layer_set_usage n ≡ Some v) where
      bad_usage : has_bad_layers c u (Some n) ≡ is_bad_usage c u v
      bad_usage =
          bad_by
          ∙ ap (λ o. option_map_or (is_bad_usage c u) o
          (option_map_or (λ set. not (is_layer_set c u n)) (c.given material_layer_set n) false)) given

      usage_is : (keyword : Option (List ℕ)) (prism : Upright) (turn : Quarter)
          → layering_by c u keyword prism turn (Some n) ≡ by_usage c u prism turn v
      usage_is keyword prism turn =
          layering_is keyword prism turn
          ∙ ap (λ o. option_map_or (by_usage c u prism turn) o
          (option_map_or (λ set. by_set c u keyword prism turn n) (c.given material_layer_set n) Plain)) given

      or_true : (b : Bool) → (b || true) ≡ true
      or_true true = refl
      or_true false = refl

      -- whose axis or sense is none
      pub bad_axis : IsAlong v.1.0 v.1.1.0 None → IsMadeOf c u (Some n) None
      bad_axis (inl none) =
          bad_usage
          ∙ ap (λ o. not (is_layer_set c u v.0)
          || (option_map_or (λ number. false) o true || option_map_or (λ sense. false) (sense_of v.1.1.0) true))
          none
          ∙ or_true (not (is_layer_set c u v.0))
      bad_axis (inr none) =
          bad_usage
          ∙ ap (λ o. not (is_layer_set c u v.0)
          || (option_map_or (λ number. false) (number_of v.1.0) true || option_map_or (λ sense. false) o true))
          none
          ∙ ap (λ b. not (is_layer_set c u v.0) || b)
          (or_true (option_map_or (λ number. false) (number_of v.1.0) true))
          ∙ or_true (not (is_layer_set c u v.0))

      -- whose set is none that is read
      pub bad_set : is_layer_set c u v.0 ≡ false → IsMadeOf c u (Some n) None
      bad_set bad =
          bad_usage
          ∙ ap (λ b. not b
          || (option_map_or (λ number. false) (number_of v.1.0) true
          || option_map_or (λ sense. false) (sense_of v.1.1.0) true)) bad

      -- with layers along an axis
      pub good_usage : (a : Along) → IsAlong v.1.0 v.1.1.0 (Some a) → is_layer_set c u v.0 ≡ true
          → (layers : List Layer) → layers ≡ layers_of c u v.0
          → IsMadeOf c u (Some n) (Some (made.InLayers layers (Some a)))
      good_usage a (axis, sense) good layers are = (
        bad_usage
            ∙ ap (λ b. not b
            || (option_map_or (λ number. false) (number_of v.1.0) true
            || option_map_or (λ sense. false) (sense_of v.1.1.0) true)) good
            ∙ ap (λ o. option_map_or (λ number. false) o true
            || option_map_or (λ sense. false) (sense_of v.1.1.0) true) axis
            ∙ ap (λ o. option_map_or (λ sense. false) o true) sense,
        λ keyword prism turn.
            ap (along prism turn (Some (number_at a.axis, a.negative))) are
            ∙ sym (usage_is keyword prism turn
            ∙ ap (λ o. along prism turn (axis_by o (sense_of v.1.1.0)) (layers_of c u v.0)) axis
            ∙ ap (λ o. along prism turn (axis_by (Some (number_at a.axis)) o) (layers_of c u v.0)) sense),
      )

    -- ---- a set by itself

    module _ (no_usage : c.given material_layer_set_usage n ≡ None) where
      bad_alone : has_bad_layers c u (Some n)
          ≡ option_map_or (λ set. not (is_layer_set c u n)) (c.given material_layer_set n) false
      bad_alone =
          bad_by
          ∙ ap (λ o. option_map_or (is_bad_usage c u) o
          (option_map_or (λ set. not (is_layer_set c u n)) (c.given material_layer_set n) false)) no_usage

      alone_is : (keyword : Option (List ℕ)) (prism : Upright) (turn : Quarter)
          → layering_by c u keyword prism turn (Some n)
          ≡ option_map_or (λ set. by_set c u keyword prism turn n) (c.given material_layer_set n) Plain
      alone_is keyword prism turn =
          layering_is keyword prism turn
          ∙ ap (λ o. option_map_or (by_usage c u prism turn) o
          (option_map_or (λ set. by_set c u keyword prism turn n) (c.given material_layer_set n) Plain)) no_usage

      -- nothing that is read
      pub nothing : c.given material_layer_set n ≡ None → IsMadeOf c u (Some n) (Some made.Nothing)
      nothing none = (
        bad_alone ∙ ap (λ o. option_map_or (λ set. not (is_layer_set c u n)) o false) none,
        λ keyword prism turn.
            sym (alone_is keyword prism turn
            ∙ ap (λ o. option_map_or (λ set. by_set c u keyword prism turn n) o Plain) none),
      )

      module _ (members : List ℕ) (given : c.given material_layer_set n ≡ Some (members, tt)) where
        pub bad_alone_set : is_layer_set c u n ≡ false → IsMadeOf c u (Some n) None
        bad_alone_set bad =
            bad_alone
            ∙ ap (λ o. option_map_or (λ set. not (is_layer_set c u n)) o false) given
            ∙ ap not bad

        pub good_set : is_layer_set c u n ≡ true → (layers : List Layer) → layers ≡ layers_of c u n
            → IsMadeOf c u (Some n) (Some (made.InLayers layers None))
        good_set good layers are = (
          bad_alone
              ∙ ap (λ o. option_map_or (λ set. not (is_layer_set c u n)) o false) given
              ∙ ap not good,
          λ keyword prism turn.
              ap (along prism turn (Some (axis_of_class keyword, false))) are
              ∙ sym (alone_is keyword prism turn
              ∙ ap (λ o. option_map_or (λ set. by_set c u keyword prism turn n) o Plain) given),
        )

-- ---- sets

module _ (c : Contents) (u : units.Unit) (n : ℕ) (members : List ℕ)
    (given : c.given material_layer_set n ≡ Some (members, tt)) where
  pub set_is : is_layer_set c u n ≡ are_layers c u members
  set_is =
      ap (λ o. option_map_or (λ v. nat_le (length v.0) most_layers && list_all (is_layer c u) v.0) o false) given

  pub layers_are : layers_of c u n ≡ layers_from c u 1 members
  layers_are = ap (λ o. option_map_or (λ v. layers_from c u 1 v.0) o []) given

-- no set
pub no_set : (c : Contents) (u : units.Unit) (n : ℕ) → c.given material_layer_set n ≡ None
    → is_layer_set c u n ≡ false
no_set c u n none =
    ap (λ o. option_map_or (λ v. nat_le (length v.0) most_layers && list_all (is_layer c u) v.0) o false) none

-- ---- what is made of a set and of a usage

-- a set by itself, of these layers or of none
pub set_made : (c : Contents) (u : units.Unit) (n : ℕ) (members : List ℕ) (layers : Option (List Layer))
    → c.given material n ≡ None → c.given material_layer_set_usage n ≡ None
    → c.given material_layer_set n ≡ Some (members, tt) → AreLayersOf c u members layers
    → IsMadeOf c u (Some n) (option_map (λ ls. made.InLayers ls None) layers)
set_made c u n members None no_material no_usage given bad =
    bad_alone_set c u n no_material no_usage members given (set_is c u n members given ∙ bad)
set_made c u n members (Some layers) no_material no_usage given (good, are) =
    good_set c u n no_material no_usage members given (set_is c u n members given ∙ good) layers
    (are ∙ sym (layers_are c u n members given))

-- a usage of a set
pub usage_made : (c : Contents) (u : units.Unit) (n set : ℕ) (axis sense : List ℕ) (a : Along)
    (members : List ℕ) (layers : Option (List Layer)) → c.given material n ≡ None
    → c.given material_layer_set_usage n ≡ Some (set, (axis, (sense, tt))) → IsAlong axis sense (Some a)
    → c.given material_layer_set set ≡ Some (members, tt) → AreLayersOf c u members layers
    → IsMadeOf c u (Some n) (option_map (λ ls. made.InLayers ls (Some a)) layers)
usage_made c u n set axis sense a members None no_material usage along_is given bad =
    bad_set c u n no_material (set, (axis, (sense, tt))) usage (set_is c u set members given ∙ bad)
usage_made c u n set axis sense a members (Some layers) no_material usage along_is given (good, are) =
    good_usage c u n no_material (set, (axis, (sense, tt))) usage a along_is
    (set_is c u set members given ∙ good) layers (are ∙ sym (layers_are c u set members given))

-- a usage whose axis or sense is none
pub usage_no_axis : (c : Contents) (u : units.Unit) (n set : ℕ) (axis sense : List ℕ)
    → c.given material n ≡ None → c.given material_layer_set_usage n ≡ Some (set, (axis, (sense, tt)))
    → IsAlong axis sense None → IsMadeOf c u (Some n) None
usage_no_axis c u n set axis sense no_material usage none =
    bad_axis c u n no_material (set, (axis, (sense, tt))) usage none

-- a usage of no set
pub usage_no_set : (c : Contents) (u : units.Unit) (n set : ℕ) (axis sense : List ℕ)
    → c.given material n ≡ None → c.given material_layer_set_usage n ≡ Some (set, (axis, (sense, tt)))
    → c.given material_layer_set set ≡ None → IsMadeOf c u (Some n) None
usage_no_set c u n set axis sense no_material usage none =
    bad_set c u n no_material (set, (axis, (sense, tt))) usage (no_set c u set none)
