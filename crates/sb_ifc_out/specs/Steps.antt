-- What the private calls promise.

use Rattle.std.specs.Prelude.{◌≡◌, ◌≤◌, ℕ, ◌*◌, ◌^◌, ⊤, ◌++◌, List, Option, Some, None, unsigned_abs, codes}
use Rattle.std.specs.Prelude.{length, map}
use Rattle.sb_fraction.specs.declared.unit.Unit as unit
use Rattle.sb_model.specs.declared.patches.corner.Corners.{Corners}
use Rattle.sb_model.specs.declared.faces.facing.Facing.{Facing}
use Rattle.sb_model.specs.declared.frame.Frame.{Frame}
use Rattle.sb_model.specs.Labels.{axis_vector}
use Rattle.sha1.specs.Sha1.{Holds}
use Rattle.sb_fraction.specs.Spots.{Vector, vector}
use Rattle.sb_model.specs.declared.products.Space.{Space}
use Rattle.sb_model.specs.Building.{Building}
use Rattle.sb_model.specs.declared.boundary.Boundary.{Boundary}
use Rattle.sb_model.specs.Surfaces.Corners.{corners_of}
use Rattle.sb_model.specs.Surfaces.Faces.{space_numbered}
use Rattle.sb_ifc_out.specs.declared.in_space.Span.{Span}
use Rattle.sb_ifc_out.specs.declared.names.Names.{Names}
use Rattle.sb_ifc_out.specs.declared.relation.Relation.{Relation}
use Rattle.sb_ifc_out.specs.Guids.{namespace}
use Rattle.sb_ifc_out.specs.InTheSpace.{turned_back}
use Rattle.sb_ifc_out.specs.Numbers.{corners_listed}
use Rattle.sb_ifc_out.specs.BoundaryLines.{corner_lines, surface_text}
use Rattle.sb_ifc_out.specs.Lines.{Told}

-- ---- spans

-- the vector of the three numbers that the code keeps
abbrev pub span_of : Span → Vector
span_of s = vector s.x s.y s.z

-- the greatest size of a number of a span: a coordinate's nanometres are less
abbrev pub greatest_span : ℕ
greatest_span = 12 * 10 ^ 37

-- the greatest size of a ratio of a direction
abbrev pub greatest_ratio : ℕ
greatest_ratio = 2 ^ 31

-- each number is at most so great in size
pub record IsWithin (size : ℕ) (v : Vector) : Type 0 where
  pub of_x : unsigned_abs v.x ≤ size
  pub of_y : unsigned_abs v.y ≤ size
  pub of_z : unsigned_abs v.z ≤ size

-- ---- names

-- what the names of a space's boundaries begin with, in their namespace
abbrev pub beginning : List ℕ → List ℕ
beginning global_id = namespace ++ (global_id ++ codes "/")

-- these names are of the space with this number and GlobalId
pub record IsBegunFor (number : ℕ) (global_id : List ℕ) (names : Names) : Type 0 where
  pub space_is : names.space ≡ number
  pub holds : Holds names.begun (beginning global_id)

-- none, or names that are of this space if they have its number
abbrev pub IsKeptFor : ℕ → List ℕ → Option Names → Type 0
IsKeptFor number global_id None = ⊤
IsKeptFor number global_id (Some names) =
    names.space ≡ number → Holds names.begun (beginning global_id)

-- none, or names of a space of the model
abbrev pub AreKept : Building → Option Names → Type 0
AreKept m None = ⊤
AreKept m (Some names) =
    (s : Space) → space_numbered m names.space ≡ Some s → Holds names.begun (beginning s.global_id)

-- ---- the relation

-- what the code keeps of a relation
abbrev pub told_by : Relation → Told
told_by r = record {
  identifier = r.identifier.now;
  type_name = r.type_name.now;
  space = r.space;
  element = r.element;
  connection = r.connection;
  physical = r.physical.now;
  outside = r.outside.now;
  parent = r.parent;
  pair = r.pair;
}

-- ---- the surface

-- the corners and the surface of a boundary whose face looks there, as the code has them
abbrev pub drawn_text : unit.Unit → Frame → ℕ → Corners → Facing → ℕ → List ℕ
drawn_text u frame first corners facing n =
    let listed = corners_listed (Some corners) in
    corner_lines u frame first listed
    ++ surface_text (turned_back frame.turn (axis_vector facing.normal))
    (turned_back frame.turn (axis_vector facing.across)) first (length listed) n

-- the corners of a list's boundaries, in its order
abbrev pub AreOutlines : Building → List Boundary → List Corners → Type 0
AreOutlines m bs outlines =
    map (λ (c : Corners). Some c) outlines ≡ map (λ (b : Boundary). corners_of m b.patch) bs
