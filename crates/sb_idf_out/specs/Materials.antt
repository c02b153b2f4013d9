-- The materials of the items of a list's top-level boundaries.

use Rattle.std.specs.Prelude.{ℕ, ℤ, Bool, ◌&&◌, List, nat_eq, map, filter, is_none}
use Rattle.std.specs.Ordering.{int_eq}
use Rattle.std.specs.List.{flat_map}
use Rattle.std.specs.Cmp.Lexicographic.{pointwise}
use Rattle.sb_fixed.specs.Rounding.{rounded}
use Rattle.sb_model.specs.declared.boundary.Boundary.{Boundary}
use Rattle.sb_model.specs.declared.walk.Item.{Item}
use Rattle.sb_model.specs.Building.{Building, material_of}
use Rattle.sb_idf_out.specs.FirstUse.{each_once}

-- a material: a name, which is empty where there is none, and a thickness in whole micrometres
pub record Material : Type 0 where
  pub name : List ℕ
  pub thickness : ℤ

abbrev pub material : List ℕ → ℤ → Material
material name thickness = record { name = name; thickness = thickness }

-- two names have the same bytes
abbrev pub is_same_name : List ℕ → List ℕ → Bool
is_same_name a b = pointwise nat_eq a b

-- two materials have the same name and the same thickness
abbrev pub is_same_material : Material → Material → Bool
is_same_material a b = is_same_name a.name b.name && int_eq a.thickness b.thickness

-- the material of an item: the name of its layer's, and its thickness rounded half away from zero
abbrev pub of_item : Building → Item → Material
of_item m i = material (material_of m i.element i.layer) (rounded i.thickness)

-- those of a boundary, from the first item to the last
abbrev pub materials_of : Building → Boundary → List Material
materials_of m b = map (of_item m) b.walk.items

-- a boundary of the top level has no parent
abbrev pub is_top_level : Boundary → Bool
is_top_level b = is_none b.parent

-- the materials of a list, each once in order of first use by the boundaries of the top level and their
-- items
abbrev pub all_materials : Building → List Boundary → List Material
all_materials m bs = each_once is_same_material (flat_map (materials_of m) (filter is_top_level bs))
