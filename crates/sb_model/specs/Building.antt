-- What contracts see of a model, and what holds of every model.

use Rattle.std.specs.Prelude.{ℕ, ℤ, Bool, true, not, ◌&&◌, ◌||◌, ◌==◌, ◌^◌, List, [], ◌∷◌}
use Rattle.std.specs.Prelude.{length, nat_le, nat_lt, nat_eq, unsigned_abs, pos, if◌then◌else◌}
use Rattle.std.specs.Prelude.{Option, Some, None, is_none, Result, Err, ◌≢◌}
use Rattle.std.specs.Ordering.{int_eq}
use Rattle.std.specs.List.{list_all, list_any, find}
use Rattle.theory_numbers.specs.Divisors.{are_coprime}
use Rattle.sb_fraction.specs.declared.unit.Unit as unit
use Rattle.sb_model.specs.declared.layers.Axis.{Axis}
use Rattle.sb_model.specs.declared.layers.Layer.{Layer}
use Rattle.sb_model.specs.declared.layers.Layering.{Layering}
use Rattle.sb_model.specs.declared.layers.Layering.TheVariants.{Plain, Single, Layered}
use Rattle.sb_model.specs.declared.building.ModelError.{ModelError}
use Rattle.sb_model.specs.declared.building.ModelError.TheVariants as error
use Rattle.sb_model.specs.declared.products.Space.{Space}
use Rattle.sb_model.specs.declared.products.Element.{Element}
use Rattle.sb_model.specs.declared.products.Opening.{Opening}
use Rattle.sb_model.specs.declared.products.Filling.{Filling}
use Rattle.sb_fraction.specs.Plane.{is_coordinate, longest_step}

-- a model: the products of a building, the height of its ground and the reach of its walks
pub record Building : Type 0 where
  pub unit : unit.Unit
  pub ground_height : ℤ
  pub reach : ℕ
  pub spaces : List Space
  pub elements : List Element
  pub openings : List Opening
  pub fillings : List Filling

abbrev pub building : unit.Unit → ℤ → ℕ → List Space → List Element → List Opening → List Filling
    → Building
building unit ground_height reach spaces elements openings fillings = record {
  unit = unit;
  ground_height = ground_height;
  reach = reach;
  spaces = spaces;
  elements = elements;
  openings = openings;
  fillings = fillings;
}

-- the greatest reach of walks, in millimetres
abbrev pub greatest_reach : ℕ
greatest_reach = 5000

-- the greatest size of a coordinate of a frame's shift, in nanometres
abbrev pub greatest_shift : ℕ
greatest_shift = 10 ^ 12

-- the greatest nominal thickness of a layer, in micrometres
abbrev pub greatest_thickness : ℕ
greatest_thickness = 10000000

-- how many layers an element has at most
abbrev pub most_layers : ℕ
most_layers = 64

-- the ground's height is within 500,000 mm
abbrev pub is_ground_height : ℤ → Bool
is_ground_height z = is_coordinate z

-- the reach is from 1 to 5,000 mm
abbrev pub is_reach : ℕ → Bool
is_reach reach = nat_le 1 reach && nat_le reach greatest_reach

-- each coordinate of a frame's shift is at most 10^12 nm in size
abbrev pub is_shift : List ℤ → Bool
is_shift shift = list_all (λ z. nat_le (unsigned_abs z) greatest_shift) shift

-- (x, y, 0) without common divisor, x and y at most 10^6 in size
abbrev pub is_level_axis : Axis → Bool
is_level_axis a =
    int_eq a.z (pos 0)
    && are_coprime (unsigned_abs a.x) (unsigned_abs a.y)
    && nat_le (unsigned_abs a.x) longest_step
    && nat_le (unsigned_abs a.y) longest_step

-- (0, 0, 1) or (0, 0, -1)
abbrev pub is_upright_axis : Axis → Bool
is_upright_axis a = int_eq a.x (pos 0) && int_eq a.y (pos 0) && nat_eq (unsigned_abs a.z) 1

-- layers with rising indices above `before`, each from 1 to 10,000,000 µm thick
abbrev pub are_layers : ℕ → List Layer → Bool
are_layers before [] = true
are_layers before (l ∷ ls) =
    nat_lt before l.index && nat_le 1 l.micro && nat_le l.micro greatest_thickness
    && are_layers l.index ls

-- from 1 to 64 layers along a level or an upright axis
abbrev pub is_layering : Layering → Bool
is_layering Plain = true
is_layering (Single material) = true
is_layering (Layered layers axis) =
    nat_le 1 (length layers)
    && nat_le (length layers) most_layers
    && are_layers 0 layers
    && (is_level_axis axis || is_upright_axis axis)

-- the ground, the reach, the frames and the layers are in their ranges
abbrev pub is_in_range : Building → Bool
is_in_range m =
    is_ground_height m.ground_height
    && is_reach m.reach
    && list_all (λ s. is_shift s.frame.shift) m.spaces
    && list_all (λ e. is_layering e.layering) m.elements

-- whether an item has this number
abbrev pub has_number : {X : Type 0} → (X → ℕ) → List X → ℕ → Bool
has_number number xs n = list_any (λ x. number x == n) xs

abbrev pub is_space : Building → ℕ → Bool
is_space m n = has_number (λ s. s.number) m.spaces n

abbrev pub is_element : Building → ℕ → Bool
is_element m n = has_number (λ e. e.number) m.elements n

abbrev pub is_opening : Building → ℕ → Bool
is_opening m n = has_number (λ o. o.number) m.openings n

abbrev pub is_filling : Building → ℕ → Bool
is_filling m n = has_number (λ f. f.number) m.fillings n

-- the first number that is not above the one before it in its list, or whose item is wrong
-- otherwise
abbrev pub first_wrong : {X : Type 0} → (X → ℕ) → (X → Bool) → ℕ → List X → Option ℕ
first_wrong number is_wrong before [] = None
first_wrong number is_wrong before (x ∷ xs) =
    if not (nat_lt before (number x)) || is_wrong x
    then Some (number x)
    else first_wrong number is_wrong (number x) xs

-- the first of the two that is there
abbrev pub or_else : Option ℕ → Option ℕ → Option ℕ
or_else (Some n) other = Some n
or_else None other = other

-- the first wrong number of the spaces, of which none stands in another list
abbrev pub bad_space : Building → Option ℕ
bad_space m =
    first_wrong (λ s. s.number)
    (λ s. is_element m s.number || is_opening m s.number || is_filling m s.number) 0 m.spaces

-- of the elements
abbrev pub bad_element : Building → Option ℕ
bad_element m =
    first_wrong (λ e. e.number)
    (λ e. is_space m e.number || is_opening m e.number || is_filling m e.number) 0 m.elements

-- of the openings, which are each of an element that is there
abbrev pub bad_opening : Building → Option ℕ
bad_opening m =
    first_wrong (λ o. o.number)
    (λ o. is_space m o.number || is_element m o.number || is_filling m o.number
    || not (is_element m o.element)) 0 m.openings

-- and of the fillings, which each fill an opening that is there
abbrev pub bad_filling : Building → Option ℕ
bad_filling m =
    first_wrong (λ f. f.number)
    (λ f. is_space m f.number || is_element m f.number || is_opening m f.number
    || not (is_opening m f.opening)) 0 m.fillings

-- the first number that is 0, is not above the number before it in its list, stands in two lists,
-- or is of an opening or a filling that names what is not there; spaces are looked at first, then
-- elements, openings and fillings
abbrev pub first_bad : Building → Option ℕ
first_bad m = or_else (bad_space m) (or_else (bad_element m) (or_else (bad_opening m) (bad_filling m)))

-- what holds of every model: the ranges, and no number is bad
abbrev pub is_building : Building → Bool
is_building m = is_in_range m && is_none (first_bad m)

-- the name of this layer's material
abbrev pub material_at : Option Layer → List ℕ
material_at None = []
material_at (Some l) = l.material

-- the name of the material of this layer; empty where there is none. One material through and
-- through is that of layer 0
abbrev pub material_in : Layering → ℕ → List ℕ
material_in Plain layer = []
material_in (Single material) layer = if layer == 0 then material else []
material_in (Layered layers axis) layer = material_at (find (λ l. l.index == layer) layers)

abbrev pub material_through : Option Element → ℕ → List ℕ
material_through None layer = []
material_through (Some e) layer = material_in e.layering layer

-- the element with this number
abbrev pub element_numbered : Building → ℕ → Option Element
element_numbered m n = find (λ e. e.number == n) m.elements

-- the opening with this number
abbrev pub opening_numbered : Building → ℕ → Option Opening
opening_numbered m n = find (λ o. o.number == n) m.openings

-- the filling with this number
abbrev pub filling_numbered : Building → ℕ → Option Filling
filling_numbered m n = find (λ f. f.number == n) m.fillings

-- the name of the material of this layer of this element; empty where there is none
abbrev pub material_of : Building → ℕ → ℕ → List ℕ
material_of m element layer = material_through (element_numbered m element) layer

-- there was memory enough for an answer
abbrev pub IsMade : Result Building ModelError → Type 0
IsMade answer = answer ≢ Err error.NoMemory
