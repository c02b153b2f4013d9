-- What a walk up or down meets, by the numbers of the products that are present in its gap.

use Rattle.std.specs.Prelude.{◌≡◌, ℕ, ℤ, Bool, true, false, List, [], ◌∷◌, ◌++◌, map, Option, Some, None}
use Rattle.std.specs.List.{AllByRecursion, find}
use Rattle.sb_fraction.specs.Spots.{Vector}
use Rattle.sb_model.specs.declared.labels.label.Label.{Label}
use Rattle.sb_model.specs.declared.labels.label.Label.TheVariants as label
use Rattle.sb_model.specs.declared.layers.Layering.{Layering}
use Rattle.sb_model.specs.declared.layers.Layering.TheVariants.{Plain, Single, Layered}
use Rattle.sb_model.specs.declared.products.Space.{Space}
use Rattle.sb_model.specs.declared.products.Element.{Element}
use Rattle.sb_model.specs.Solids.{Upright}
use Rattle.sb_model.specs.Building.{Building}
use Rattle.sb_model.specs.Surfaces.Faces.{space_numbered}
use Rattle.sb_model.specs.Walks.{Course, element_numbered}
use Rattle.theory_sight.specs.Reading.{Stretch, square, read}
use Rattle.theory_gaps.specs.Borders.{border, stretches_of, reaches_on, open_behind}
use Rattle.theory_gaps.specs.Borders.{entry_along, exit_along}

-- ---- labels

-- the space reaches on behind a position
abbrev pub is_space_on : Vector → ℤ → Option Space → Bool
is_space_on n z None = false
is_space_on n z (Some s) = reaches_on n z s.prism

-- the element does
abbrev pub is_element_on : Vector → ℤ → Option Element → Bool
is_element_on n z None = false
is_element_on n z (Some e) = reaches_on n z e.prism

-- the first of the numbers whose space reaches on there
abbrev pub space_on : Building → Vector → List ℕ → ℤ → Option ℕ
space_on m n present z = find (λ k. is_space_on n z (space_numbered m k)) present

-- whose element does
abbrev pub element_on : Building → Vector → List ℕ → ℤ → Option ℕ
element_on m n present z = find (λ k. is_element_on n z (element_numbered m k)) present

-- the space, else the element, else what is bare
abbrev pub label_of : Option ℕ → Option ℕ → Label → Label
label_of (Some k) other bare = label.Space k
label_of None (Some k) bare = label.Element k 0
label_of None None bare = bare

-- the label just behind a position, of these products
abbrev pub label_on : Building → Vector → List ℕ → ℤ → Label
label_on m n present z =
    label_of (space_on m n present z) (element_on m n present z) (open_behind n m.ground_height z)

-- ---- positions

-- where a prism is entered and left
abbrev pub prism_ends : Vector → Upright → List ℤ
prism_ends n s = entry_along n s ∷ exit_along n s ∷ []

abbrev pub space_ends : Vector → Option Space → List ℤ
space_ends n None = []
space_ends n (Some s) = prism_ends n s.prism

abbrev pub element_ends : Vector → Option Element → List ℤ
element_ends n None = []
element_ends n (Some e) = prism_ends n e.prism

-- where the product with this number is
abbrev pub ends_at : Building → Vector → ℕ → List ℤ
ends_at m n k = space_ends n (space_numbered m k) ++ element_ends n (element_numbered m k)

-- where these products are
abbrev pub ends_of : Building → Vector → List ℕ → List ℤ
ends_of m n [] = []
ends_of m n (k ∷ ks) = ends_at m n k ++ ends_of m n ks

-- ---- walks

-- no element has layers along an axis
abbrev pub has_no_axis : Layering → Bool
has_no_axis Plain = true
has_no_axis (Single material) = true
has_no_axis (Layered layers axis) = false

abbrev pub HaveNoLayers : Building → Type 0
HaveNoLayers m = AllByRecursion (λ e. has_no_axis e.layering ≡ true) m.elements

-- the stretches behind a label with borders at these positions
abbrev pub stretches_on : Building → Vector → List ℕ → Label → List ℤ → List Stretch
stretches_on m n present l heights =
    stretches_of l (map (λ z. border (square z) (label_on m n present z)) heights)

-- the walk from a position, with borders at these positions
abbrev pub read_on : Building → Vector → List ℕ → ℤ → List ℤ → Course
read_on m n present x0 heights =
    read m n x0 x0 (stretches_on m n present (label_on m n present x0) heights)
