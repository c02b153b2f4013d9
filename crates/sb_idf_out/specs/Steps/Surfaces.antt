-- The parts of an object before and behind the field of the counterpart.

use Rattle.std.specs.Prelude.{ℕ, suc, ◌++◌, List, [], ◌∷◌, codes, decimal}
use Rattle.std.specs.List.{concat}
use Rattle.sb_model.specs.declared.boundary.Boundary.{Boundary}
use Rattle.sb_model.specs.declared.faces.face.FaceKind.{FaceKind}
use Rattle.sb_model.specs.declared.products.FillKind.{FillKind}
use Rattle.sb_model.specs.declared.walk.End.{End}
use Rattle.sb_model.specs.Building.{Building}
use Rattle.sb_idf_out.specs.Objects.{object_under}
use Rattle.sb_idf_out.specs.Fields.{surface_type, condition, sun, wind, kind_name, kind_construction}

abbrev pub surface_start : ℕ → ℕ → ℕ → FaceKind → End → List ℕ
surface_start construction id space kind end = concat (
    codes "BuildingSurface:Detailed,B_" ∷ decimal id ∷ codes "," ∷ surface_type kind end ∷ codes ",C_"
    ∷ decimal construction ∷ codes ",SPACE_" ∷ decimal space ∷ codes "," ∷ condition end ∷ codes "," ∷ []
    )

abbrev pub surface_rest : End → List ℕ → List ℕ
surface_rest end corners = concat (
    codes "," ∷ sun end ∷ codes "," ∷ wind end ∷ codes ",autocalculate" ∷ corners ∷ codes ";\n" ∷ []
    )

abbrev pub filling_start : ℕ → ℕ → FillKind → List ℕ
filling_start id parent kind = concat (
    codes "FenestrationSurface:Detailed,B_" ∷ decimal id ∷ codes "," ∷ kind_name kind ∷ codes ","
    ∷ kind_construction kind ∷ codes ",B_" ∷ decimal parent ∷ codes "," ∷ []
    )

abbrev pub filling_rest : List ℕ → List ℕ
filling_rest corners = concat (codes ",autocalculate,,1" ∷ corners ∷ codes ";\n" ∷ [])

-- the objects of boundaries whose constructions have these numbers; the ids rise from this one
abbrev pub objects_by : Building → ℕ → List ℕ → List Boundary → List ℕ
objects_by m id (k ∷ ks) (b ∷ bs) = object_under m k id b b.parent ++ objects_by m (suc id) ks bs
objects_by m id [] bs = []
objects_by m id (k ∷ ks) [] = []
