-- The lines of one boundary (ISO 16739): a surface in the space's own frame, and its relation to the space
-- and to an element (IfcRelSpaceBoundary2ndLevel).

use Rattle.std.specs.Prelude.{ℕ, ℤ, ◌+◌, ◌++◌, Bool, false, List, [], ◌∷◌, Option, Some, None, length, codes}
use Rattle.std.specs.Prelude.{if◌then◌else◌}
use Rattle.std.specs.List.{range_with_len}
use Rattle.sb_fraction.specs.declared.unit.Unit as unit
use Rattle.sb_fraction.specs.Spots.{Vector}
use Rattle.sb_fixed.specs.Printed.{scaled_text}
use Rattle.sb_model.specs.declared.boundary.Boundary.{Boundary}
use Rattle.sb_model.specs.declared.patches.corner.Corner.{Corner}
use Rattle.sb_model.specs.declared.frame.Frame.{Frame}
use Rattle.sb_model.specs.declared.products.Space.{Space}
use Rattle.sb_model.specs.declared.walk.End.{End}
use Rattle.sb_model.specs.declared.walk.End.TheVariants as end
use Rattle.sb_model.specs.Building.{Building, is_opening}
use Rattle.sb_model.specs.Surfaces.Faces.{Surface}
use Rattle.sb_ifc_out.specs.Guids.{guid_of_name, relation_name, virtual_name}
use Rattle.sb_ifc_out.specs.InTheSpace.{in_frame, turned_back, places_in}
use Rattle.sb_ifc_out.specs.Lines.{line, point_body, loop_body, bound_body, direction_body}
use Rattle.sb_ifc_out.specs.Lines.{placement_body, plane_body, face_body, connection_body}
use Rattle.sb_ifc_out.specs.Lines.{virtual_body, relation_body, Told}
use Rattle.sb_ifc_out.specs.Numbers.{corners_at, element_of, virtual_lines}

-- ---- the corners

-- a length in the file's unit, with all its places
abbrev pub coordinate : unit.Unit → ℤ → List ℕ
coordinate u nanometres = scaled_text nanometres (places_in u)

abbrev pub point_text : unit.Unit → Vector → List ℕ
point_text u v = point_body (coordinate u v.x) (coordinate u v.y) (coordinate u v.z)

-- a line for each corner, from this number on
abbrev pub corner_lines : unit.Unit → Frame → ℕ → List Corner → List ℕ
corner_lines u frame n [] = []
corner_lines u frame n (c ∷ cs) =
    line n (point_text u (in_frame frame c)) ++ corner_lines u frame (n + 1) cs

-- ---- the surface: eight lines

-- the loop through so many corners, which stand on the lines from `first` on, and its bound
abbrev pub outline_text : ℕ → ℕ → ℕ → List ℕ
outline_text first corners n =
    line n (loop_body (range_with_len first corners)) ++ line (n + 1) (bound_body n)

-- the plane through the first corner, with its normal and its direction
abbrev pub plane_text : Vector → Vector → ℕ → ℕ → List ℕ
plane_text normal across first n =
    line n (direction_body normal) ++ line (n + 1) (direction_body across)
    ++ line (n + 2) (placement_body first n (n + 1)) ++ line (n + 3) (plane_body (n + 2))

-- the face of a bound and a plane, and its connection
abbrev pub connected_text : ℕ → ℕ → ℕ → List ℕ
connected_text bound plane n =
    line n (face_body bound plane) ++ line (n + 1) (connection_body n)

abbrev pub surface_text : Vector → Vector → ℕ → ℕ → ℕ → List ℕ
surface_text normal across first corners n =
    outline_text first corners n ++ plane_text normal across first (n + 2)
    ++ connected_text (n + 1) (n + 5) (n + 6)

-- ---- the relation

-- the line of a virtual element, which stands only where there is no element
abbrev pub virtual_text : List ℕ → ℕ → ℕ → Option ℕ → List ℕ
virtual_text global_id id n (Some element) = []
virtual_text global_id id n None = line n (virtual_body (guid_of_name (virtual_name global_id id)))

-- 2b where the walk ends in an element that is not passed, else 2a
abbrev pub type_text : End → List ℕ
type_text (end.Solid n) = codes "2b"
type_text (end.Space n) = codes "2a"
type_text end.Outside = codes "2a"
type_text end.Earth = codes "2a"

-- the key of a child is an opening
abbrev pub is_opening_key : Building → Option ℕ → Bool
is_opening_key m None = false
is_opening_key m (Some key) = is_opening m key

-- there is an element, and no opening as the key of a child
abbrev pub physical_text : Bool → Option ℕ → List ℕ
physical_text is_open None = codes "VIRTUAL"
physical_text is_open (Some element) = if is_open then codes "VIRTUAL" else codes "PHYSICAL"

-- what lies behind
abbrev pub outside_text : End → List ℕ
outside_text end.Outside = codes "EXTERNAL"
outside_text end.Earth = codes "EXTERNAL_EARTH"
outside_text (end.Space n) = codes "INTERNAL"
outside_text (end.Solid n) = codes "INTERNAL"

-- the number of the element's instance: that of the element, or of the line that stands for it
abbrev pub element_number : ℕ → Option ℕ → ℕ
element_number n (Some element) = element
element_number n None = n

-- what the relation of a boundary says, whose connection stands on line n, and a virtual element on the
-- line after it; parent and pair are the lines of their relations
abbrev pub told_of : Building → List ℕ → ℕ → Option ℕ → Option ℕ → Boundary → ℕ → Told
told_of m global_id id parent pair b n = record {
  identifier = guid_of_name (relation_name global_id id);
  type_name = type_text b.walk.end;
  space = b.patch.face.space;
  element = element_number (n + 1) (element_of b);
  connection = n;
  physical = physical_text (is_opening_key m b.key) (element_of b);
  outside = outside_text b.walk.end;
  parent = parent;
  pair = pair;
}

-- the lines behind the connection on line n: a virtual element where it is needed, and the relation
abbrev pub related_text : Building → List ℕ → ℕ → Option ℕ → Option ℕ → Boundary → ℕ → List ℕ
related_text m global_id id parent pair b n =
    virtual_text global_id id (n + 1) (element_of b)
    ++ line (n + virtual_lines (element_of b) + 1)
    (relation_body (told_of m global_id id parent pair b n))

-- ---- all lines of a boundary

-- the lines of a boundary of this space, over this face, from the number after `before` on
abbrev pub boundary_lines : Building → Space → Surface → Option ℕ → Option ℕ → ℕ → ℕ → Boundary
    → List ℕ
boundary_lines m s f parent pair before id b =
    let corners = corners_at m b in
    let first = before + 1 in
    let n = first + length corners in
    corner_lines m.unit s.frame first corners
    ++ surface_text (turned_back s.frame.turn f.normal) (turned_back s.frame.turn f.across) first
    (length corners) n
    ++ related_text m s.global_id id parent pair b (n + 7)
