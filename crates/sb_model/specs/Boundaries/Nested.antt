-- Nested boundaries: the children of a boundary are its openings.

use Rattle.std.specs.Prelude.{◌≡◌, ℕ, Bool, ◌&&◌, List, Some, None, IsTrue}
use Rattle.theory_plane.specs.Points.{FacePoint, IsFacePoint}
use Rattle.theory_plane.specs.Regions.{is_inside}
use Rattle.sb_model.specs.declared.boundary.Boundary.{Boundary}
use Rattle.sb_model.specs.declared.products.Space.{Space}
use Rattle.sb_fraction.specs.Spots.{Spot, IsSpot}
use Rattle.sb_model.specs.Building.{Building}
use Rattle.sb_model.specs.Surfaces.Faces.{Surface, surface_of, space_numbered}
use Rattle.sb_model.specs.Surfaces.PlainPoints.{is_plain}
use Rattle.sb_model.specs.Surfaces.Patches.{region_of, is_in_patch, is_child_of}
use Rattle.theory_lists.specs.Members.{Stands, AllOfTwo}
use Rattle.sb_model.specs.Boundaries.Places.{boundary_at}
use Rattle.theory_lists.specs.OneOf.{ExactlyOne, NoneOf}
use Rattle.sb_model.specs.Boundaries.Trimmed.{AreTrimmed}
use Rattle.sb_model.specs.Boundaries.OpenedPoints.{IsOpened, IsKey}

-- the boundary lies in the one with this id: a top-level boundary of the same face with the same
-- walk, whose patch contains each point of its patch
pub record IsInParent (list : List Boundary) (b : Boundary) (id : ℕ) : Type 0 where
  pub parent : Boundary
  pub parent_is : boundary_at list id ≡ Some parent
  pub top_level : parent.parent ≡ None
  pub face : b.patch.face ≡ parent.patch.face
  pub walk : b.walk ≡ parent.walk
  pub inside : (q : FacePoint) → IsFacePoint q → IsTrue (is_inside (region_of b.patch) q)
      → IsTrue (is_inside (region_of parent.patch) q)

-- a child of the boundary with this id whose patch contains the point
abbrev pub is_child_at : Surface → ℕ → Spot → Boundary → Bool
is_child_at f id p c = is_child_of id c && is_in_patch f c.patch p

-- the children of a top-level boundary at a plain point of its patch: where it is opened exactly
-- one contains it, with the point's key; elsewhere none
pub record OpensAt (m : Building) (list : List Boundary) (f : Surface) (id : ℕ)
    (p : Spot) : Type 0 where
  pub opened : IsOpened m f p → ExactlyOne (is_child_at f id p) list
  pub keys : IsOpened m f p → (c : Boundary) → Stands c list → IsTrue (is_child_at f id p c)
      → (key : ℕ) × ((c.key ≡ Some key) × IsKey m f p key)
  pub closed : (IsOpened m f p → ⊥) → NoneOf (is_child_at f id p) list

-- the children of the top-level boundary a, which has this id
abbrev pub Opens : Building → List Boundary → Boundary → ℕ → Type 0
Opens m list a id =
    (s : Space) → space_numbered m a.patch.face.space ≡ Some s
    → (f : Surface) → surface_of s.prism a.patch.face.kind ≡ Some f
    → (p : Spot) → IsSpot p → IsTrue (is_plain m s.prism a.patch.face.kind p)
    → IsTrue (is_in_patch f a.patch p)
    → OpensAt m list f id p

-- a list is nested
pub record IsNested (m : Building) (list : List Boundary) : Type 0 where
  -- a top-level boundary has neither parent nor key
  pub no_key : (b : Boundary) → Stands b list → b.parent ≡ None → b.key ≡ None
  -- a child lies in its parent
  pub in_parent : (b : Boundary) → Stands b list → (id : ℕ) → b.parent ≡ Some id
      → IsInParent list b id
  -- the children of each top-level boundary are its opened points with their keys
  pub opens : (id : ℕ) → (a : Boundary) → boundary_at list id ≡ Some a → a.parent ≡ None
      → Opens m list a id
  -- the children of one parent are trimmed among themselves, with equal keys in place of equal
  -- walks
  pub trimmed : (id : ℕ) → AllOfTwo
      (λ b c. b.parent ≡ Some id → c.parent ≡ Some id → b.key ≡ c.key
      → AreTrimmed m b.patch c.patch)
      list
