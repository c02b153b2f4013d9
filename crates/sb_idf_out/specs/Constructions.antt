-- The constructions of a list's top-level boundaries.

use Rattle.std.specs.Prelude.{ℕ, Bool, true, false, ◌&&◌, List, [], ◌∷◌, map, filter, nat_eq, reverse}
use Rattle.std.specs.Prelude.{if◌then◌else◌}
use Rattle.std.specs.Cmp.Lexicographic.{pointwise}
use Rattle.sb_model.specs.declared.boundary.Boundary.{Boundary}
use Rattle.sb_model.specs.declared.walk.Item.{Item}
use Rattle.sb_model.specs.Building.{Building}
use Rattle.sb_idf_out.specs.FirstUse.{each_once, number_in}
use Rattle.sb_idf_out.specs.Materials.{Material, is_same_material, materials_of, is_top_level}

-- the construction of a boundary: the numbers of its materials among these, from the last item to the
-- first, so from outside to inside
abbrev pub construction_of : Building → List Material → Boundary → List ℕ
construction_of m ms b = reverse (map (number_in is_same_material ms) (materials_of m b))

-- two constructions have the same materials in the same order
abbrev pub is_same_construction : List ℕ → List ℕ → Bool
is_same_construction a b = pointwise nat_eq a b

abbrev pub has_items : List Item → Bool
has_items [] = false
has_items (i ∷ is) = true

-- a boundary needs a construction of its own: it is of the top level and has items
abbrev pub has_construction : Boundary → Bool
has_construction b = is_top_level b && has_items b.walk.items

-- the constructions of a list, each once in order of first use
abbrev pub all_constructions : Building → List Material → List Boundary → List (List ℕ)
all_constructions m ms bs =
    each_once is_same_construction (map (construction_of m ms) (filter has_construction bs))

-- the number of a boundary's construction, 0 where it has none of its own
abbrev pub construction_number : Building → List Material → List (List ℕ) → Boundary → ℕ
construction_number m ms cs b =
    if has_construction b then number_in is_same_construction cs (construction_of m ms b) else 0
