-- The materials are those before with those of the items so far, and the numbers are theirs.
use Rattle.std.proofs.Common.{◌≡◌, List, map, take}
use Rattle.sb_idf_out.specs.FirstUse.{with_all}
use Rattle.sb_idf_out.specs.Materials.{Material, is_same_material, of_item}
use Rattle.sb_idf_out.specs.Steps.Tables.{used_numbers}
use Rattle.sb_idf_out.specs.Steps.Uses.{AreMaterials}
use Rattle.sb_idf_out.proofs.uses.numbers_of_items.Given as goal

abbrev pub invariant-items : goal.invariant-items
invariant-items l =
    ((ms : List Material) → AreMaterials l.model ms l.initial.materials
    → AreMaterials l.model
    (with_all is_same_material ms (map (of_item l.model) (take l.item-index l.items))) l.materials)
    × ((ms : List Material) → AreMaterials l.model ms l.initial.materials
    → l.numbers.items
    ≡ used_numbers is_same_material ms (map (of_item l.model) (take l.item-index l.items)))
