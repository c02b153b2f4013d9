-- The lines that are added, each an instance of the exchange text on a line of its own: what stands in it
-- by its entity (ISO 16739).

use Rattle.std.specs.Prelude.{ℕ, ◌++◌, List, [], ◌∷◌, Option, Some, None, codes}
use Rattle.std.specs.List.{concat}
use Rattle.sb_fraction.specs.Spots.{Vector}
use Rattle.sb_texts.specs.Numerals.{reference, references, whole}

-- an instance with its number
unfoldable pub line : ℕ → List ℕ → List ℕ
line n body = reference n ++ codes "=" ++ body ++ codes ";\n"

-- IfcCartesianPoint, of three coordinates as they are printed
unfoldable pub point_body : List ℕ → List ℕ → List ℕ → List ℕ
point_body x y z =
    concat (codes "IFCCARTESIANPOINT((" ∷ x ∷ codes "," ∷ y ∷ codes "," ∷ z ∷ codes "))" ∷ [])

-- IfcPolyLoop, through these points
unfoldable pub loop_body : List ℕ → List ℕ
loop_body points = concat (codes "IFCPOLYLOOP((" ∷ references points ∷ codes "))" ∷ [])

-- IfcFaceOuterBound, of this loop
unfoldable pub bound_body : ℕ → List ℕ
bound_body loop_at = concat (codes "IFCFACEOUTERBOUND(" ∷ reference loop_at ∷ codes ",.T.)" ∷ [])

-- IfcDirection, of whole ratios
unfoldable pub direction_body : Vector → List ℕ
direction_body v =
    concat (
    codes "IFCDIRECTION((" ∷ whole v.x ∷ codes "," ∷ whole v.y ∷ codes "," ∷ whole v.z ∷ codes "))"
    ∷ []
    )

-- IfcAxis2Placement3D, at a point, with its axis and its reference direction
unfoldable pub placement_body : ℕ → ℕ → ℕ → List ℕ
placement_body point axis across =
    concat (
    codes "IFCAXIS2PLACEMENT3D(" ∷ reference point ∷ codes "," ∷ reference axis ∷ codes ","
    ∷ reference across ∷ codes ")" ∷ []
    )

-- IfcPlane, of this placement
unfoldable pub plane_body : ℕ → List ℕ
plane_body placement = concat (codes "IFCPLANE(" ∷ reference placement ∷ codes ")" ∷ [])

-- IfcFaceSurface, of this bound and this plane
unfoldable pub face_body : ℕ → ℕ → List ℕ
face_body bound plane =
    concat (
    codes "IFCFACESURFACE((" ∷ reference bound ∷ codes ")," ∷ reference plane ∷ codes ",.T.)" ∷ []
    )

-- IfcConnectionSurfaceGeometry, of this surface
unfoldable pub connection_body : ℕ → List ℕ
connection_body surface =
    concat (codes "IFCCONNECTIONSURFACEGEOMETRY(" ∷ reference surface ∷ codes ",$)" ∷ [])

-- IfcVirtualElement, with this identifier
unfoldable pub virtual_body : List ℕ → List ℕ
virtual_body identifier =
    concat (codes "IFCVIRTUALELEMENT('" ∷ identifier ∷ codes "',$,$,$,$,$,$,$)" ∷ [])

-- the number of an instance, or nothing
abbrev pub reference_or_null : Option ℕ → List ℕ
reference_or_null None = codes "$"
reference_or_null (Some n) = reference n

-- what an IfcRelSpaceBoundary2ndLevel says: its identifier, its type (2a or 2b), the space, the element and
-- the connection, whether it is physical or virtual, what lies behind, and the relations of the parent and
-- of the counterpart
pub record Told : Type 0 where
  pub identifier : List ℕ
  pub type_name : List ℕ
  pub space : ℕ
  pub element : ℕ
  pub connection : ℕ
  pub physical : List ℕ
  pub outside : List ℕ
  pub parent : Option ℕ
  pub pair : Option ℕ

unfoldable pub relation_body : Told → List ℕ
relation_body t = concat (
    codes "IFCRELSPACEBOUNDARY2NDLEVEL('" ∷ t.identifier ∷ codes "',$,'2ndLevel','" ∷ t.type_name
    ∷ codes "'," ∷ reference t.space ∷ codes "," ∷ reference t.element ∷ codes ","
    ∷ reference t.connection ∷ codes ",." ∷ t.physical ∷ codes ".,." ∷ t.outside ∷ codes ".,"
    ∷ reference_or_null t.parent ∷ codes "," ∷ reference_or_null t.pair ∷ codes ")" ∷ []
    )
