-- Patches of faces, and the points inside them.

use Rattle.std.specs.Prelude.{ℕ, ◌==◌, Bool, true, false, ◌&&◌, Option, Some, None, is_none}
use Rattle.theory_plane.specs.Regions.{Region, is_inside}
use Rattle.sb_model.specs.declared.boundary.Boundary.{Boundary}
use Rattle.sb_model.specs.declared.faces.face.Face.{Face}
use Rattle.sb_model.specs.declared.faces.face.FaceKind.{FaceKind}
use Rattle.sb_model.specs.declared.faces.face.FaceKind.TheVariants as kind
use Rattle.sb_model.specs.declared.patches.patch.Patch.{Patch}
use Rattle.sb_model.specs.declared.products.Space.{Space}
use Rattle.sb_fraction.specs.Spots.{Spot}
use Rattle.sb_model.specs.Surfaces.Sides.{region_between}
use Rattle.sb_model.specs.Building.{Building}
use Rattle.sb_model.specs.Surfaces.Faces.{Surface, surface_of, on_face, space_numbered}

-- the part of its face's plane that a patch covers
abbrev pub region_of : Patch → Region
region_of p = region_between p.low p.high p.lower p.upper

-- p lies inside the patch: low < u < high, and v lies above the lower and below the upper side at u
abbrev pub is_in_patch : Surface → Patch → Spot → Bool
is_in_patch f patch p = is_inside (region_of patch) (on_face f p)

abbrev pub surface_in : Option Space → FaceKind → Option Surface
surface_in None k = None
surface_in (Some s) k = surface_of s.prism k

-- a face of the model; none where the space is not there or has no such edge
abbrev pub surface_at : Building → Face → Option Surface
surface_at m f = surface_in (space_numbered m f.space) f.kind

abbrev pub is_same_kind : FaceKind → FaceKind → Bool
is_same_kind kind.Bottom kind.Bottom = true
is_same_kind kind.Top kind.Top = true
is_same_kind (kind.Side j) (kind.Side k) = j == k
is_same_kind _ _ = false

-- a top-level boundary has no parent
abbrev pub is_top_level : Boundary → Bool
is_top_level b = is_none b.parent

-- the boundary stands on this face of the space with this number
abbrev pub stands_on : ℕ → FaceKind → Boundary → Bool
stands_on space k b = b.patch.face.space == space && is_same_kind b.patch.face.kind k

abbrev pub is_id : ℕ → Option ℕ → Bool
is_id i None = false
is_id i (Some j) = i == j

-- the boundary is a child of the one with this id
abbrev pub is_child_of : ℕ → Boundary → Bool
is_child_of id b = is_id id b.parent
