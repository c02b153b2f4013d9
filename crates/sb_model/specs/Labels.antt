-- What is at a point: a space, an element with its layer, the earth or nothing.

use Rattle.std.specs.Prelude.{ℕ, ℤ, pos, ◌≤◌, unsigned_abs, ◌+◌, ◌+ℤ◌, ◌-ℤ◌, ◌*ℤ◌, Bool, ◌&&◌, nat_le, int_lt, int_le}
use Rattle.std.specs.Prelude.{List, [], ◌∷◌, ◌++◌, Option, Some, None, if◌then◌else◌}
use Rattle.std.specs.List.{fold}
use Rattle.std.specs.Int.{int_min, int_max}
use Rattle.sb_fraction.specs.declared.point.Point.{Point}
use Rattle.sb_model.specs.declared.labels.label.Label.{Label}
use Rattle.sb_model.specs.declared.labels.label.Label.TheVariants as label
use Rattle.sb_model.specs.declared.layers.Axis.{Axis}
use Rattle.sb_model.specs.declared.layers.Layer.{Layer}
use Rattle.sb_model.specs.declared.layers.Layering.{Layering}
use Rattle.sb_model.specs.declared.layers.Layering.TheVariants.{Plain, Single, Layered}
use Rattle.sb_model.specs.declared.products.Space.{Space}
use Rattle.sb_model.specs.declared.products.Element.{Element}
use Rattle.sb_fraction.specs.Spots.{Spot, Vector, vector, times_w}
use Rattle.sb_fraction.specs.Plane.{longest_step}
use Rattle.sb_fraction.specs.Crossings.{abscissa_at}
use Rattle.sb_model.specs.Solids.{Upright, is_in_solid}
use Rattle.sb_model.specs.Building.{Building}

-- the one of two items with the lower number
abbrev pub lower_of : {X : Type 0} → (X → ℕ) → X → Option X → X
lower_of number x None = x
lower_of number x (Some y) = if nat_le (number x) (number y) then x else y

-- the lowest-numbered of the items that pass the test
abbrev pub lowest : {X : Type 0} → (X → ℕ) → (X → Bool) → List X → Option X
lowest number passes [] = None
lowest number passes (x ∷ xs) =
    if passes x then Some (lower_of number x (lowest number passes xs)) else lowest number passes xs

-- an axis as a vector
abbrev pub axis_vector : Axis → Vector
axis_vector a = vector a.x a.y a.z

-- p·n for the corners of a prism over one plan point
abbrev pub readings_over : Upright → Vector → Point → List ℤ
readings_over s n p =
    let plan = abscissa_at p n in
    (plan +ℤ (s.z0 *ℤ n.z)) ∷ (plan +ℤ (s.z1 *ℤ n.z)) ∷ []

abbrev pub readings_in : Upright → Vector → List Point → List ℤ
readings_in s n [] = []
readings_in s n (p ∷ points) = readings_over s n p ++ readings_in s n points

-- p·n for all corners of a prism
abbrev pub readings_of : Upright → Vector → List (List Point) → List ℤ
readings_of s n [] = []
readings_of s n (points ∷ loops) = readings_in s n points ++ readings_of s n loops

-- the first of some readings
abbrev pub first_of : List ℤ → ℤ
first_of [] = pos 0
first_of (z ∷ zs) = z

-- the extent of a prism along n, from the least p·n of its corners
abbrev pub least_of : List ℤ → ℤ
least_of [] = pos 0
least_of (z ∷ zs) = fold int_min z zs

-- to the greatest
abbrev pub greatest_of : List ℤ → ℤ
greatest_of [] = pos 0
greatest_of (z ∷ zs) = fold int_max z zs

abbrev pub low_along : Upright → Vector → ℤ
low_along s n = least_of (readings_of s n s.loops)

abbrev pub high_along : Upright → Vector → ℤ
high_along s n = greatest_of (readings_of s n s.loops)

-- the sum of the nominal thicknesses, in micrometres
abbrev pub total_of : List Layer → ℕ
total_of [] = 0
total_of (l ∷ ls) = l.micro + total_of ls

-- the index of the layer in whose band a reading lies. Where T is the sum of the thicknesses, `at`
-- is the reading less the extent's low end, times T, and `scale` the length of the extent: so a
-- band lies between `scale` times the sum before it and `scale` times the sum through it. A band
-- has its lower end and not its upper end, but the last has both
abbrev pub layer_from : ℤ → ℤ → ℕ → List Layer → ℕ
layer_from at scale before [] = 0
layer_from at scale before (l ∷ []) =
    if int_le (scale *ℤ pos before) at && int_le at (scale *ℤ pos (before + l.micro)) then l.index
    else 0
layer_from at scale before (l ∷ m ∷ ls) =
    if int_le (scale *ℤ pos before) at && int_lt at (scale *ℤ pos (before + l.micro))
    then l.index
    else layer_from at scale (before + l.micro) (m ∷ ls)

-- the index of the layer that contains a point of a prism; 0 without layers along an axis
abbrev pub layer_at : Upright → Layering → Spot → ℕ
layer_at s Plain p = 0
layer_at s (Single material) p = 0
layer_at s (Layered layers axis) p =
    let n = axis_vector axis in
    let low = low_along s n in
    layer_from ((times_w p n -ℤ (low *ℤ p.w)) *ℤ pos (total_of layers))
    ((high_along s n -ℤ low) *ℤ p.w) 0 layers

abbrev pub space_at : Building → Spot → Option Space
space_at m p = lowest (λ s. s.number) (λ s. is_in_solid s.prism p) m.spaces

abbrev pub element_at : Building → Spot → Option Element
element_at m p = lowest (λ e. e.number) (λ e. is_in_solid e.prism p) m.elements

-- earth below the ground, else nothing
abbrev pub open_label : ℤ → Spot → Label
open_label ground_height p = if int_lt p.z (ground_height *ℤ p.w) then label.Earth else label.Void

abbrev pub element_label : ℤ → Spot → Option Element → Label
element_label ground_height p None = open_label ground_height p
element_label ground_height p (Some e) = label.Element e.number (layer_at e.prism e.layering p)

abbrev pub space_label : Building → Spot → Option Space → Label
space_label m p None = element_label m.ground_height p (element_at m p)
space_label m p (Some s) = label.Space s.number

-- the label of a point, the first that applies: the lowest-numbered space that contains it; the
-- lowest-numbered element that contains it, with its layer; earth below the ground; void. Openings
-- have no part in it
abbrev pub label_at : Building → Spot → Label
label_at m p = space_label m p (space_at m p)

-- the numbers of an axis are at most 10^6 in size
pub record IsShortAxis (a : Axis) : Type 0 where
  pub of_x : unsigned_abs a.x ≤ longest_step
  pub of_y : unsigned_abs a.y ≤ longest_step
  pub of_z : unsigned_abs a.z ≤ longest_step
