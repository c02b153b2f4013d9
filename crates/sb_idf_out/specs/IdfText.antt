-- The IDF text: the fixed objects, then zones, materials, constructions and boundaries.

use Rattle.std.specs.Prelude.{ℕ, ◌++◌, List, [], ◌∷◌, codes}
use Rattle.std.specs.List.{concat, flat_map}
use Rattle.sb_model.specs.declared.boundary.Boundary.{Boundary}
use Rattle.sb_model.specs.Building.{Building}
use Rattle.sb_idf_out.specs.FirstUse.{in_order}
use Rattle.sb_idf_out.specs.Materials.{Material, all_materials}
use Rattle.sb_idf_out.specs.Constructions.{all_constructions}
use Rattle.sb_idf_out.specs.Objects.{zone_object, object_of, construction_object, boundary_object}

-- the objects that stand in every text
unfoldable pub head : List ℕ
head = concat (
    codes "Version,9.4;\n"
    ∷ codes "GlobalGeometryRules,UpperLeftCorner,Counterclockwise,World;\n"
    ∷ codes "Material,M_0,MediumRough,0.001000,1.000000,1000.000000,1000.000000;\n"
    ∷ codes "Construction,C_0,M_0;\n"
    ∷ codes "Material,M_DOOR,MediumRough,0.040000,0.150000,600.000000,1600.000000;\n"
    ∷ codes "Construction,C_DOOR,M_DOOR;\n"
    ∷ codes "WindowMaterial:SimpleGlazingSystem,M_WINDOW,2.000000,0.600000;\n"
    ∷ codes "Construction,C_WINDOW,M_WINDOW;\n"
    ∷ []
    )

-- a zone for each space
abbrev pub zones : Building → List ℕ
zones m = flat_map (λ s. zone_object s.number) m.spaces

-- the text behind the zones, where these are the list's materials and constructions
abbrev pub objects_with : Building → List Material → List (List ℕ) → List Boundary → List ℕ
objects_with m ms cs bs =
    in_order object_of 1 ms
    ++ in_order construction_object 1 cs
    ++ in_order (boundary_object m ms cs) 1 bs

-- the text of a list
unfoldable pub idf_text_of : Building → List Boundary → List ℕ
idf_text_of m bs =
    let ms = all_materials m bs in
    head ++ zones m ++ objects_with m ms (all_constructions m ms bs) bs
