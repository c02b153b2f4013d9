-- A list covers a model: each plain point of each face lies in exactly one top-level patch, with
-- the walk that is recorded there.

use Rattle.std.specs.Prelude.{◌≡◌, Bool, ◌&&◌, List, Some, IsTrue}
use Rattle.sb_model.specs.declared.boundary.Boundary.{Boundary}
use Rattle.sb_model.specs.declared.faces.face.FaceKind.{FaceKind}
use Rattle.sb_model.specs.declared.products.Space.{Space}
use Rattle.sb_fraction.specs.Spots.{Spot, IsSpot}
use Rattle.sb_model.specs.Building.{Building}
use Rattle.sb_model.specs.Surfaces.Faces.{Surface, surface_of, is_in_plane, is_of_face, is_face_of}
use Rattle.sb_model.specs.Surfaces.PlainPoints.{is_plain}
use Rattle.sb_model.specs.Walks.{IsWalk}
use Rattle.sb_model.specs.Surfaces.Patches.{is_in_patch, is_top_level, stands_on}
use Rattle.theory_lists.specs.Members.{Stands}
use Rattle.theory_lists.specs.OneOf.{ExactlyOne}

-- a top-level boundary of this face whose patch contains the point
abbrev pub is_top_at : Space → FaceKind → Surface → Spot → Boundary → Bool
is_top_at s k f p b = is_top_level b && (stands_on s.number k b && is_in_patch f b.patch p)

-- the top-level boundaries of one face of a space
pub record CoversFace (m : Building) (list : List Boundary) (s : Space) (k : FaceKind)
    (f : Surface) : Type 0 where
  -- each plain point lies in exactly one of their patches
  pub once : (p : Spot) → IsSpot p → IsTrue (is_plain m s.prism k p)
      → ExactlyOne (is_top_at s k f p) list
  -- each point in one of their patches is a point of the face
  pub inside : (p : Spot) → IsSpot p → IsTrue (is_in_plane f p)
      → (b : Boundary) → Stands b list → IsTrue (is_top_at s k f p b)
      → IsTrue (is_of_face s.prism k p)
  -- the walk of each plain point in one of them is the recorded walk
  pub walks : (p : Spot) → IsSpot p → IsTrue (is_plain m s.prism k p)
      → (b : Boundary) → Stands b list → IsTrue (is_top_at s k f p b) → IsWalk m f p b.walk

-- a list covers a model
pub record Covers (m : Building) (list : List Boundary) : Type 0 where
  -- each top-level boundary stands on a face of a space of the model
  pub on_faces : (b : Boundary) → Stands b list → IsTrue (is_top_level b)
      → IsTrue (is_face_of m b.patch.face)
  -- and each face of each space is covered
  pub faces : (s : Space) → Stands s m.spaces → (k : FaceKind) → (f : Surface)
      → surface_of s.prism k ≡ Some f → CoversFace m list s k f
