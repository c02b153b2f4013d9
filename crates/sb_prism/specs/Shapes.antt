-- Shapes as they are read: of a product's IfcProductDefinitionShape the first Body, its items, and of each
-- extruded solid the profile with its curves, the position, the direction and the depth.
use Rattle.std.specs.Prelude.{◌≡◌, ◌⊎◌, ℕ, Bool, false, List, [], ◌∷◌, codes, Option, Some, None, if◌then◌else◌}
use Rattle.std.specs.Str.{bytes_eq}
use Rattle.sb_step.specs.Indexed.{Indexed}
use Rattle.sb_schema.specs.declared.lists.TypedList.{TypedList}
use Rattle.sb_schema.specs.declared.entities.shapes.ShapeRepresentation.{ShapeRepresentation}
use Rattle.sb_schema.specs.Rows as rows
use Rattle.sb_schema.specs.Views.{Gives, IsMissing, IsOther}
use Rattle.sb_place.specs.declared.sight.Seen.{Seen}
use Rattle.sb_place.specs.declared.sight.Seen.TheVariants as seen
use Rattle.sb_place.specs.declared.position.Position.{Position}
use Rattle.sb_place.specs.Sight.{Sees, IsSeen}
use Rattle.sb_place.specs.Directions.{Coordinates}
use Rattle.sb_place.specs.Positions.{IsPoint, IsDirection, IsSpacePosition, IsPlanPosition}

-- ---- what is seen

-- a curve of a profile
pub data Curve : Type 0 where
  -- IfcPolyline: what is seen of its points
  polyline : List (Seen Coordinates) → Curve
  -- IfcIndexedPolyCurve: what is seen of its list of points, and its segments where they are given
  indexed : Seen (List Coordinates) → Option (List TypedList) → Curve

pub data Profile : Type 0 where
  -- IfcRectangleProfileDef: its position in the plan, and XDim and YDim as they stand
  rectangle : Option (Seen Position) → List ℕ → List ℕ → Profile
  -- IfcArbitraryClosedProfileDef, and IfcArbitraryProfileDefWithVoids: the outer curve and the inner ones
  area : Seen Curve → List (Seen Curve) → Profile

-- IfcExtrudedAreaSolid
pub record Solid : Type 0 where
  pub profile : Seen Profile
  pub position : Option (Seen Position)
  pub direction : Seen Coordinates
  pub depth : List ℕ

-- IfcShapeRepresentation: its identifier `a2`, and the numbers of its items `a4`
abbrev pub Representation : Type 0
Representation = ShapeRepresentation

-- IfcProductDefinitionShape: all its representations, and the items of the first Body, where it has one
pub record Shape : Type 0 where
  pub representations : List (Seen Representation)
  pub items : Option (List (Seen Solid))

-- ---- how it is seen

-- of each number one thing, in order
abbrev pub AreEach : {X : Type 0} → (ℕ → X → Type 0) → List ℕ → List X → Type 0
AreEach Is [] [] = Unit {0}
AreEach Is (n ∷ ns) (x ∷ xs) = Is n x × AreEach Is ns xs
AreEach Is _ _ = ⊥

-- what may be left out
abbrev pub IsWhere : {X : Type 0} → (ℕ → X → Type 0) → Option ℕ → Option X → Type 0
IsWhere Is None None = Unit {0}
IsWhere Is (Some n) (Some x) = Is n x
IsWhere Is _ _ = ⊥

-- a curve of one of the two entities
abbrev pub ShowsCurve : Indexed → ℕ → Curve → Type 0
ShowsCurve i n (polyline points) =
    (numbers : List ℕ) × Gives rows.polyline i n (Some (numbers, tt))
    × AreEach (IsPoint i) numbers points
ShowsCurve i n (indexed points segments) =
    (number : ℕ) × Gives rows.indexed_poly_curve i n (Some (number, (segments, tt)))
    × IsSeen rows.cartesian_point_list_2d i number (λ pairs. (pairs, tt)) points

abbrev pub IsCurve : Indexed → ℕ → Seen Curve → Type 0
IsCurve i n (seen.Absent m) = (m ≡ n) × IsMissing i n
IsCurve i n (seen.Broken m) =
    (m ≡ n) × (Gives rows.polyline i n None ⊎ Gives rows.indexed_poly_curve i n None)
IsCurve i n seen.Other =
    IsOther (codes "IFCPOLYLINE" ∷ []) i n × IsOther (codes "IFCINDEXEDPOLYCURVE" ∷ []) i n
IsCurve i n (seen.Shown curve) = ShowsCurve i n curve

-- a profile of one of the three entities
abbrev pub ShowsProfile : Indexed → ℕ → Profile → Type 0
ShowsProfile i n (rectangle position x y) =
    (at : Option ℕ) × Gives rows.rectangle_profile_def i n (Some (at, (x, (y, tt))))
    × IsWhere (IsPlanPosition i) at position
ShowsProfile i n (area outer inner) =
    (curve : ℕ) × IsCurve i curve outer
    × ((Gives rows.arbitrary_closed_profile_def i n (Some (curve, tt)) × (inner ≡ []))
    ⊎ ((voids : List ℕ) × Gives rows.arbitrary_profile_def_with_voids i n (Some (curve, (voids, tt)))
    × AreEach (IsCurve i) voids inner))

abbrev pub IsProfile : Indexed → ℕ → Seen Profile → Type 0
IsProfile i n (seen.Absent m) = (m ≡ n) × IsMissing i n
IsProfile i n (seen.Broken m) =
    (m ≡ n)
    × (Gives rows.rectangle_profile_def i n None
    ⊎ (Gives rows.arbitrary_closed_profile_def i n None
    ⊎ Gives rows.arbitrary_profile_def_with_voids i n None))
IsProfile i n seen.Other =
    IsOther (codes "IFCRECTANGLEPROFILEDEF" ∷ []) i n
    × IsOther (codes "IFCARBITRARYCLOSEDPROFILEDEF" ∷ []) i n
    × IsOther (codes "IFCARBITRARYPROFILEDEFWITHVOIDS" ∷ []) i n
IsProfile i n (seen.Shown profile) = ShowsProfile i n profile

pub record ShowsSolid (i : Indexed) (n : ℕ) (s : Solid) : Type 0 where
  pub profile_at : ℕ
  pub position_at : Option ℕ
  pub direction_at : ℕ
  pub gives : Gives rows.extruded_area_solid i n (Some (profile_at, (position_at, (direction_at, (s.depth, tt)))))
  pub profile_is : IsProfile i profile_at s.profile
  pub position_is : IsWhere (IsSpacePosition i) position_at s.position
  pub direction_is : IsDirection i direction_at s.direction

abbrev pub IsSolid : Indexed → ℕ → Seen Solid → Type 0
IsSolid i n s = Sees rows.extruded_area_solid i n (ShowsSolid i n) s

abbrev pub IsRepresentation : Indexed → ℕ → Seen Representation → Type 0
IsRepresentation i n s = IsSeen rows.shape_representation i n (λ r. (r.a2, (r.a4, tt))) s

-- the identifier is `Body`
abbrev pub is_named_body : Option (List ℕ) → Bool
is_named_body None = false
is_named_body (Some name) = bytes_eq name (codes "Body")

abbrev pub is_body : Seen Representation → Bool
is_body (seen.Shown r) = is_named_body r.a2
is_body _ = false

-- the numbers of the items of a representation
abbrev pub items_at : Seen Representation → List ℕ
items_at (seen.Shown r) = r.a4
items_at _ = []

-- the numbers of the items of the first Body: an instance of another entity or not of its row is none
abbrev pub first_body : List (Seen Representation) → Option (List ℕ)
first_body [] = None
first_body (r ∷ later) = if is_body r then Some (items_at r) else first_body later

-- the items of a Body where there is one
abbrev pub AreItems : Indexed → Option (List ℕ) → Option (List (Seen Solid)) → Type 0
AreItems i None None = Unit {0}
AreItems i (Some numbers) (Some solids) = AreEach (IsSolid i) numbers solids
AreItems i _ _ = ⊥

pub record ShowsShape (i : Indexed) (n : ℕ) (s : Shape) : Type 0 where
  pub numbers : List ℕ
  pub gives : Gives rows.product_definition_shape i n (Some (numbers, tt))
  pub are : AreEach (IsRepresentation i) numbers s.representations
  pub items_are : AreItems i (first_body s.representations) s.items

-- the shape of this number
abbrev pub IsShape : Indexed → ℕ → Seen Shape → Type 0
IsShape i n s = Sees rows.product_definition_shape i n (ShowsShape i n) s
