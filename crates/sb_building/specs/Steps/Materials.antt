-- What is read of material instances, step by step.
use Rattle.std.specs.Prelude.{◌≡◌, ℕ, ℤ, unsigned_abs, ◌&&◌, Bool, true, false, nat_le, List, [], ◌++◌, length, Option, Some, None, Result, Ok, Err, alloc_error, ◌⊎◌}
use Rattle.std.specs.List.{list_all}
use Rattle.std.specs.declared.alloc.AllocError.{AllocError}
use Rattle.sb_fraction.specs.declared.unit.Unit as units
use Rattle.sb_schema.specs.declared.error.ViewError.{ViewError}
use Rattle.sb_schema.specs.declared.error.ViewError.TheVariants as view_error
use Rattle.sb_model.specs.declared.layers.Layer.{Layer}
use Rattle.sb_model.specs.Building.{most_layers}
use Rattle.sb_profile.specs.Entities.Entity.{material_layer}
use Rattle.sb_profile.specs.Contents.{Contents}
use Rattle.sb_building.specs.declared.made.Along.{Along}
use Rattle.sb_building.specs.Layerings.{is_thickness, is_layer, layer_before, layers_from, number_of, sense_of, number_at}

-- what a view shows, if it shows anything
abbrev pub shown_of : {V : Type 0} → Result V ViewError → Result (Option V) AllocError
shown_of (Ok v) = Ok (Some v)
shown_of (Err view_error.NoMemory) = Err alloc_error
shown_of (Err _) = Ok None

-- a thickness that a layer may have, in micrometres
abbrev pub IsThicknessOf : ℤ → Option ℕ → Type 0
IsThicknessOf t None = is_thickness t ≡ false
IsThicknessOf t (Some micro) = (is_thickness t ≡ true) × (micro ≡ unsigned_abs t)

-- the axis and the sense of these letters
abbrev pub IsAlong : List ℕ → List ℕ → Option Along → Type 0
IsAlong axis sense None = (number_of axis ≡ None) ⊎ (sense_of sense ≡ None)
IsAlong axis sense (Some a) =
    (number_of axis ≡ Some (number_at a.axis)) × (sense_of sense ≡ Some a.negative)

-- a member of a set was read: whether it is a layer, and behind the layers before it stands this one
pub record IsPushed (c : Contents) (u : units.Unit) (index n : ℕ) (old new : List Layer) (good : Bool)
    : Type 0 where
  pub good_is : good ≡ is_layer c u n
  pub layers : good ≡ true → new ≡ old ++ layer_before c u index (c.given material_layer n) []

-- the members of a set are layers
abbrev pub are_layers : Contents → units.Unit → List ℕ → Bool
are_layers c u ns = nat_le (length ns) most_layers && list_all (is_layer c u) ns

-- the layers of these members
abbrev pub AreLayersOf : Contents → units.Unit → List ℕ → Option (List Layer) → Type 0
AreLayersOf c u ns None = are_layers c u ns ≡ false
AreLayersOf c u ns (Some layers) = (are_layers c u ns ≡ true) × (layers ≡ layers_from c u 1 ns)
