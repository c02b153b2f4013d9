-- Worked objects, numbers and materials, and wrong ones that are refused.

use Rattle.std.proofs.Common.{◌≡◌, ℤ, pos, negsuc, nat_eq, [], ◌∷◌, Some, codes, refl}
use Rattle.std.specs.Fmt.{digits}
use Rattle.theory_numbers.specs.Fractions.{Ratio}
use Rattle.sb_fixed.specs.Printed.{scaled_text}
use Rattle.sb_fixed.specs.Rounding.{rounded}
use Rattle.sb_model.specs.declared.faces.face.FaceKind.TheVariants as kind
use Rattle.sb_model.specs.declared.walk.End.TheVariants as end
use Rattle.sb_idf_out.specs.FirstUse.{each_once, number_in}
use Rattle.sb_idf_out.specs.Materials.{material, is_same_material}
use Rattle.sb_idf_out.specs.Fields.{coordinate, surface_type, condition_object}
use Rattle.sb_idf_out.specs.Objects.{material_object, construction_object, zone_object}

-- ---- numbers in order of first use

each_stands_once : each_once nat_eq (7 ∷ 5 ∷ 7 ∷ 9 ∷ 5 ∷ []) ≡ 7 ∷ 5 ∷ 9 ∷ []
each_stands_once = refl

by_first_use : number_in nat_eq (7 ∷ 5 ∷ 9 ∷ []) 9 ≡ 3
by_first_use = refl

-- materials of one name and different thickness are two, and so are those of different names
materials_apart : each_once is_same_material
    (material (codes "Brick") (pos 75000) ∷ material (codes "Brick") (pos 80000)
    ∷ material (codes "Plaster") (pos 75000) ∷ material (codes "Brick") (pos 75000) ∷ [])
    ≡ material (codes "Brick") (pos 75000) ∷ material (codes "Brick") (pos 80000)
    ∷ material (codes "Plaster") (pos 75000) ∷ []
materials_apart = refl

-- ---- objects

-- 12.5 mm of plaster
plaster : material_object 1 (pos 12500)
    ≡ codes "Material,M_1,MediumRough,0.012500,1.000000,1000.000000,1000.000000;\n"
unfolding material_object scaled_text digits
plaster = refl

from_outside_to_inside : construction_object 1 (3 ∷ 2 ∷ 1 ∷ []) ≡ codes "Construction,C_1,M_3,M_2,M_1;\n"
unfolding construction_object digits
from_outside_to_inside = refl

a_zone : zone_object 20 ≡ codes "Zone,SPACE_20,0,0,0,0,1,1;\n"
unfolding zone_object digits
a_zone = refl

-- ---- lengths

abbrev ratio : ℤ → ℤ → Ratio
ratio num den = record { num = num; den = den }

-- 10/3 and 20/3 of a millimetre, and halves of a micrometre away from zero
a_third : coordinate (ratio (pos 10) (pos 3)) ≡ codes "0.003333"
unfolding scaled_text rounded digits
a_third = refl

two_thirds : coordinate (ratio (pos 20) (pos 3)) ≡ codes "0.006667"
unfolding scaled_text rounded digits
two_thirds = refl

half_away : coordinate (ratio (negsuc 0) (pos 2000)) ≡ codes "-0.000001"
unfolding scaled_text rounded digits
half_away = refl

-- ---- ends

below_the_earth : surface_type kind.Top end.Earth ≡ codes "Roof"
below_the_earth = refl

below_a_space : surface_type kind.Top (end.Space 21) ≡ codes "Ceiling"
below_a_space = refl

no_object_outside : condition_object end.Outside (Some 2) ≡ []
no_object_outside = refl
