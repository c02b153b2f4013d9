-- The objects of zones, materials, constructions and boundaries (EnergyPlus 9.4, Input Output Reference).

use Rattle.std.specs.Prelude.{ℕ, ℤ, List, [], ◌∷◌, Option, Some, None, codes, decimal, map, option_and_then}
use Rattle.std.specs.List.{concat}
use Rattle.sb_model.specs.declared.boundary.Boundary.{Boundary}
use Rattle.sb_model.specs.declared.patches.corner.Corners.{Corners}
use Rattle.sb_model.specs.declared.products.FillKind.{FillKind}
use Rattle.sb_model.specs.declared.products.Filling.{Filling}
use Rattle.sb_model.specs.Building.{Building, filling_numbered}
use Rattle.sb_model.specs.Surfaces.Corners.{corners_of}
use Rattle.sb_idf_out.specs.Materials.{Material}
use Rattle.sb_idf_out.specs.Constructions.{construction_number}
use Rattle.sb_idf_out.specs.Fields.{object, surface_name, space_name, material_name}
use Rattle.sb_idf_out.specs.Fields.{construction_name, name_where, metres, corner_fields, surface_type, condition}
use Rattle.sb_idf_out.specs.Fields.{condition_object, sun, wind, kind_name, kind_construction}

-- the zone of a space
unfoldable pub zone_object : ℕ → List ℕ
zone_object n = concat (codes "Zone,SPACE_" ∷ decimal n ∷ codes ",0,0,0,0,1,1;\n" ∷ [])

-- a material of this number and thickness, and values that stand for what the model does not say
unfoldable pub material_object : ℕ → ℤ → List ℕ
material_object k thickness = concat (
    codes "Material,M_" ∷ decimal k ∷ codes ",MediumRough," ∷ metres thickness
    ∷ codes ",1.000000,1000.000000,1000.000000;\n" ∷ []
    )

abbrev pub object_of : ℕ → Material → List ℕ
object_of k x = material_object k x.thickness

-- a construction of this number, from outside to inside
unfoldable pub construction_object : ℕ → List ℕ → List ℕ
construction_object k numbers =
    object (codes "Construction") (construction_name k ∷ map material_name numbers)

-- a boundary of the top level with its construction
unfoldable pub surface_object : ℕ → ℕ → Boundary → Option Corners → List ℕ
surface_object construction id b corners =
    object (codes "BuildingSurface:Detailed")
    (surface_name id ∷ surface_type b.patch.face.kind b.walk.end ∷ construction_name construction
    ∷ space_name b.patch.face.space ∷ condition b.walk.end ∷ condition_object b.walk.end b.pair
    ∷ sun b.walk.end ∷ wind b.walk.end ∷ codes "autocalculate" ∷ corner_fields corners)

-- a child whose key is a filling of this kind, in its parent
unfoldable pub filling_object : ℕ → ℕ → Option ℕ → FillKind → Option Corners → List ℕ
filling_object id parent pair kind corners =
    object (codes "FenestrationSurface:Detailed")
    (surface_name id ∷ kind_name kind ∷ kind_construction kind ∷ surface_name parent ∷ name_where pair
    ∷ codes "autocalculate" ∷ [] ∷ codes "1" ∷ corner_fields corners)

-- a child; none where its key is an opening
abbrev pub child_object : ℕ → ℕ → Option ℕ → Option Filling → Option Corners → List ℕ
child_object id parent pair None corners = []
child_object id parent pair (Some f) corners = filling_object id parent pair f.kind corners

-- the object of a boundary with this parent
abbrev pub object_under : Building → ℕ → ℕ → Boundary → Option ℕ → List ℕ
object_under m construction id b None = surface_object construction id b (corners_of m b.patch)
object_under m construction id b (Some parent) =
    child_object id parent b.pair (option_and_then (filling_numbered m) b.key) (corners_of m b.patch)

-- the object of a boundary, where these are the list's materials and constructions
abbrev pub boundary_object : Building → List Material → List (List ℕ) → ℕ → Boundary → List ℕ
boundary_object m ms cs id b = object_under m (construction_number m ms cs b) id b b.parent
