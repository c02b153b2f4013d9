-- What an element is made of, by its material instance (IfcMaterial, IfcMaterialLayerSet and
-- IfcMaterialLayerSetUsage): the layering that is read, and where none can be.
use Rattle.std.specs.Prelude.{◌≡◌, ℕ, suc, ℤ, pos, Bool, true, false, not, ◌&&◌, ◌||◌, nat_eq, nat_le, int_le, unsigned_abs, List, [], ◌∷◌, length, Option, Some, None, codes, if◌then◌else◌}
use Rattle.std.specs.List.{list_all}
use Rattle.std.specs.Option.{option_map_or}
use Rattle.std.specs.Str.{bytes_eq}
use Rattle.sb_fraction.specs.declared.unit.Unit as units
use Rattle.sb_fraction.specs.Spots.{Vector}
use Rattle.sb_fixed.specs.Lengths.{micrometres_of}
use Rattle.theory_turns.specs.Turns.{Quarter}
use Rattle.sb_schema.specs.Table.{is_one_of}
use Rattle.sb_model.specs.declared.layers.Axis.{Axis}
use Rattle.sb_model.specs.declared.layers.Layer.{Layer}
use Rattle.sb_model.specs.declared.layers.Layering.{Layering}
use Rattle.sb_model.specs.declared.layers.Layering.TheVariants.{Plain, Single, Layered}
use Rattle.sb_model.specs.Building.{greatest_thickness, most_layers}
use Rattle.sb_model.specs.Solids.{Upright}
use Rattle.sb_layers.specs.Axes.{axis_along}
use Rattle.sb_profile.specs.Entities.Entity.{material, material_layer, material_layer_set, material_layer_set_usage}
use Rattle.sb_step.specs.Indexed.{Indexed}
use Rattle.sb_profile.specs.Contents.{Contents, Says}
use Rattle.sb_building.specs.declared.made.Made.{Made}
use Rattle.sb_building.specs.declared.made.Made.TheVariants as made
use Rattle.sb_building.specs.declared.made.Along.{Along}
use Rattle.sb_building.specs.declared.made.LayerAxis.{LayerAxis}
use Rattle.sb_building.specs.declared.made.LayerAxis.TheVariants as axes

-- ---- layers

-- a nominal thickness in whole micrometres that a layer may have, 0 among them
abbrev pub is_thickness : ℤ → Bool
is_thickness t = int_le (pos 0) t && int_le t (pos greatest_thickness)

-- the instance is a layer whose thickness is in range
abbrev pub is_layer : Contents → units.Unit → ℕ → Bool
is_layer c u n =
    option_map_or (λ v. is_thickness (micrometres_of v.1.0 u)) (c.given material_layer n) false

-- a set of at most 64 layers, those of thickness 0 counted
abbrev pub is_layer_set : Contents → units.Unit → ℕ → Bool
is_layer_set c u n =
    option_map_or (λ v. nat_le (length v.0) most_layers && list_all (is_layer c u) v.0)
    (c.given material_layer_set n) false

-- the name of a material: no bytes where the layer has none, or what it has is no IfcMaterial
abbrev pub name_of : Contents → Option ℕ → List ℕ
name_of c None = []
name_of c (Some n) = option_map_or (λ v. v.0) (c.given material n) []

abbrev pub layer : ℕ → List ℕ → ℕ → Layer
layer index name micro = record { index = index; material = name; micro = micro }

-- the layer at this place of its set, before others; one of thickness 0 is dropped
abbrev pub layer_before : Contents → units.Unit → ℕ → Option (Option ℕ × (List ℕ × Unit {0})) → List Layer
    → List Layer
layer_before c u index None later = later
layer_before c u index (Some v) later =
    if nat_eq (unsigned_abs (micrometres_of v.1.0 u)) 0
    then later
    else layer index (name_of c v.0) (unsigned_abs (micrometres_of v.1.0 u)) ∷ later

-- the layers from this place on
abbrev pub layers_from : Contents → units.Unit → ℕ → List ℕ → List Layer
layers_from c u index [] = []
layers_from c u index (n ∷ ns) =
    layer_before c u index (c.given material_layer n) (layers_from c u (suc index) ns)

-- the layers of a set, counted from 1
abbrev pub layers_of : Contents → units.Unit → ℕ → List Layer
layers_of c u n = option_map_or (λ v. layers_from c u 1 v.0) (c.given material_layer_set n) []

-- ---- axes

-- the number of an axis
abbrev pub number_of : List ℕ → Option ℕ
number_of letters =
    if bytes_eq (codes "AXIS1") letters then Some 1
    else if bytes_eq (codes "AXIS2") letters then Some 2
    else if bytes_eq (codes "AXIS3") letters then Some 3 else None

-- whether its sense is the negative one
abbrev pub sense_of : List ℕ → Option Bool
sense_of letters =
    if bytes_eq (codes "POSITIVE") letters then Some false
    else if bytes_eq (codes "NEGATIVE") letters then Some true else None

-- the axis of a usage, where both of its enumerations are known
abbrev pub axis_by : Option ℕ → Option Bool → Option (ℕ × Bool)
axis_by (Some number) (Some negative) = Some (number, negative)
axis_by _ _ = None

-- the axis of a set by itself: upwards in what lies, across in what stands
abbrev pub axis_of_class : Option (List ℕ) → ℕ
axis_of_class keyword =
    if is_one_of (codes "IFCSLAB" ∷ codes "IFCROOF" ∷ codes "IFCCOVERING" ∷ []) keyword then 3 else 2

abbrev pub axis_of_vector : Vector → Axis
axis_of_vector v = record { x = v.x; y = v.y; z = v.z }

-- ---- the layering

-- the attributes of a usage: its set, and the enumerations of its axis and sense
abbrev pub Usage : Type 0
Usage = ℕ × (List ℕ × (List ℕ × Unit {0}))

-- the usage cannot be read
abbrev pub is_bad_usage : Contents → units.Unit → Usage → Bool
is_bad_usage c u v =
    not (is_layer_set c u v.0)
    || (option_map_or (λ number. false) (number_of v.1.0) true
    || option_map_or (λ sense. false) (sense_of v.1.1.0) true)

-- the material instance cannot be read
abbrev pub has_bad_layers : Contents → units.Unit → Option ℕ → Bool
has_bad_layers c u None = false
has_bad_layers c u (Some m) =
    option_map_or (λ v. false)
    (c.given material m)
    (option_map_or (is_bad_usage c u)
    (c.given material_layer_set_usage m)
    (option_map_or (λ set. not (is_layer_set c u m)) (c.given material_layer_set m) false))

-- layers along an axis; none, if all of them have been dropped
abbrev pub along : Upright → Quarter → Option (ℕ × Bool) → List Layer → Layering
along prism turn None layers = Plain
along prism turn (Some a) [] = Plain
along prism turn (Some a) (l ∷ ls) = Layered (l ∷ ls) (axis_of_vector (axis_along prism turn a.0 a.1))

-- the layering by a usage, and by a set for an element of this keyword
abbrev pub by_usage : Contents → units.Unit → Upright → Quarter → Usage → Layering
by_usage c u prism turn v =
    along prism turn (axis_by (number_of v.1.0) (sense_of v.1.1.0)) (layers_of c u v.0)

abbrev pub by_set : Contents → units.Unit → Option (List ℕ) → Upright → Quarter → ℕ → Layering
by_set c u keyword prism turn set =
    along prism turn (Some (axis_of_class keyword, false)) (layers_of c u set)

-- What an element is made of, by its keyword, its prism, its turn and its material instance: one
-- material, layers along an axis, or nothing that is read.
abbrev pub layering_by : Contents → units.Unit → Option (List ℕ) → Upright → Quarter → Option ℕ → Layering
layering_by c u keyword prism turn None = Plain
layering_by c u keyword prism turn (Some m) =
    option_map_or (λ v. Single v.0)
    (c.given material m)
    (option_map_or (by_usage c u prism turn)
    (c.given material_layer_set_usage m)
    (option_map_or (λ set. by_set c u keyword prism turn m) (c.given material_layer_set m) Plain))

-- ---- what is read of a material instance, whatever element it is of

abbrev pub number_at : LayerAxis → ℕ
number_at axes.First = 1
number_at axes.Second = 2
number_at axes.Third = 3

-- an axis that is given with its sense, and that of the element's class where none is
abbrev pub axis_at : Option (List ℕ) → Option Along → ℕ × Bool
axis_at keyword None = (axis_of_class keyword, false)
axis_at keyword (Some a) = (number_at a.axis, a.negative)

-- the layering of an element that is made of this
abbrev pub layering_in : Made → Option (List ℕ) → Upright → Quarter → Layering
layering_in made.Nothing keyword prism turn = Plain
layering_in (made.OneMaterial name) keyword prism turn = Single name
layering_in (made.InLayers layers a) keyword prism turn = along prism turn (Some (axis_at keyword a)) layers

-- What is read of a material instance: nothing, where it cannot be read, and else what gives each element
-- its layering.
abbrev pub IsMadeOf : Contents → units.Unit → Option ℕ → Option Made → Type 0
IsMadeOf c u m None = has_bad_layers c u m ≡ true
IsMadeOf c u m (Some what) =
    (has_bad_layers c u m ≡ false)
    × ((keyword : Option (List ℕ)) (prism : Upright) (turn : Quarter)
    → layering_in what keyword prism turn ≡ layering_by c u keyword prism turn m)

-- the layering of an element by its material instance; none where the instance cannot be read
abbrev pub IsLayeringOf : Contents → units.Unit → Option (List ℕ) → Upright → Quarter → Option ℕ
    → Option Layering → Type 0
IsLayeringOf c u keyword prism turn m None = has_bad_layers c u m ≡ true
IsLayeringOf c u keyword prism turn m (Some l) =
    (has_bad_layers c u m ≡ false) × (l ≡ layering_by c u keyword prism turn m)

-- what is kept of material instances, by their numbers, is what the file says of them
abbrev pub AreMade : Indexed → units.Unit → (ℕ → Option (Option Made)) → Type 0
AreMade indexed u known =
    (c : Contents) → Says indexed c → (n : ℕ) (what : Option Made) → known n ≡ Some what
    → IsMadeOf c u (Some n) what
