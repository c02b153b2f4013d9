-- What elements are made of, with relations in any order.
use Rattle.std.proofs.Common.{◌≡◌, [], ◌∷◌, Some, None, refl}
use Rattle.std.specs.Prelude.{codes}
use Rattle.sb_profile.specs.Materials.{own_material, type_of, material_of}
use Rattle.sb_profile.proofs.Examples.Files.{Tables, file_of, no_tables}

-- #75 gives #30 and #31 the material #80, #73 gives #30 the material #81. #31 is of the type #90 by #77
-- and of #91 by #78, #32 of #91 by #76 and of #90 by #79; #74 gives the type #90 the material #82.
abbrev made : Tables
made = record no_tables {
  keywords =
      (75, Some (codes "IFCRELASSOCIATESMATERIAL")) ∷ (73, Some (codes "IFCRELASSOCIATESMATERIAL"))
      ∷ (79, Some (codes "IFCRELDEFINESBYTYPE")) ∷ (78, Some (codes "IFCRELDEFINESBYTYPE"))
      ∷ (77, Some (codes "IFCRELDEFINESBYTYPE")) ∷ (74, Some (codes "IFCRELASSOCIATESMATERIAL"))
      ∷ (76, Some (codes "IFCRELDEFINESBYTYPE")) ∷ [];
  materials =
      (75, (30 ∷ 31 ∷ [], (80, tt))) ∷ (73, (30 ∷ [], (81, tt))) ∷ (74, (90 ∷ [], (82, tt))) ∷ [];
  types =
      (77, (31 ∷ 33 ∷ [], (90, tt))) ∷ (78, (31 ∷ [], (91, tt))) ∷ (76, (32 ∷ [], (91, tt)))
      ∷ (79, (32 ∷ [], (90, tt))) ∷ [];
}

-- of two relations the lowest counts, though it stands behind the other
the_lowest : material_of (file_of made) 30 ≡ Some 81
the_lowest = refl

-- its own relation comes before that of its type
own_comes_first : material_of (file_of made) 31 ≡ Some 80
own_comes_first = refl

by_its_type : material_of (file_of made) 33 ≡ Some 82
by_its_type = refl

-- only the lowest relation to a type is asked, and #91 has no material
only_the_lowest_type : type_of (file_of made) 32 ≡ Some 91
only_the_lowest_type = refl

so_it_has_none : material_of (file_of made) 32 ≡ None
so_it_has_none = refl

listed_by_none : material_of (file_of made) 34 ≡ None
listed_by_none = refl

-- a relation whose row is broken names nothing
abbrev broken : Tables
broken = record made { materials = (75, (30 ∷ 31 ∷ [], (80, tt))) ∷ [] }

the_broken_one_is_passed_over : own_material (file_of broken) 30 ≡ Some 80
the_broken_one_is_passed_over = refl
