-- What a joiner is given, and what it makes of it.

use Rattle.std.specs.Prelude.{◌≡◌, Bool, ◌&&◌, true, false, List, Some}
use Rattle.std.specs.List.{AllByRecursion, list_any}
use Rattle.theory_lists.specs.Members.{Stands, AllOfTwo}
use Rattle.theory_lists.specs.OneOf.{ExactlyOne}
use Rattle.theory_numbers.specs.Rationals.{IsAtMost}
use Rattle.sb_fraction.specs.Spots.{Spot, IsSpot, Vector}
use Rattle.sb_model.specs.declared.boundary.Cell.{Cell}
use Rattle.sb_model.specs.declared.faces.face.FaceKind.{FaceKind}
use Rattle.sb_model.specs.declared.products.Space.{Space}
use Rattle.sb_model.specs.Building.{Building}
use Rattle.sb_model.specs.Surfaces.Faces.{Surface, surface_of, is_in_plane, is_of_face}
use Rattle.sb_model.specs.Surfaces.PlainPoints.{is_plain}
use Rattle.sb_model.specs.Surfaces.Patches.{region_of, is_in_patch}
use Rattle.sb_model.specs.Surfaces.FineCells.{IsFineCell}
use Rattle.sb_model.specs.Boundaries.Order.{IsBefore}
use Rattle.sb_model.specs.Boundaries.Trimmed.{AreTrimmed}
use Rattle.theory_faces.specs.Strips.{is_same_face}

-- ---- what it is given

-- the first of two cells of one slab: both lie over it, and the first comes first by space, face
-- and v, so that they do not overlap
pub record IsFirstOfSlab (b c : Cell) : Type 0 where
  pub low : (region_of b.patch).low ≡ (region_of c.patch).low
  pub high : (region_of b.patch).high ≡ (region_of c.patch).high
  pub before : IsBefore b.patch c.patch

-- each cell of the first list ends where those of the second begin, or before
abbrev pub EndsBefore : List Cell → List Cell → Type 0
EndsBefore bs cs =
    (b c : Cell) → Stands b bs → Stands c cs
    → IsAtMost (region_of b.patch).high (region_of c.patch).low

-- lists of cells, one for each of some slabs of the direction d of a model: fine cells of the
-- model, on faces that are read along d; those of one list over one slab, in order; the slabs
-- ascend. A list may be a part of its slab's cells, and the walks may be any
pub record AreJoinable (m : Building) (d : Vector) (calls : List (List Cell)) : Type 0 where
  pub fine : AllByRecursion (λ cells. AllByRecursion (λ c. IsFineCell m d c.patch) cells) calls
  pub slabs : AllByRecursion (λ cells. AllOfTwo IsFirstOfSlab cells) calls
  pub ascending : AllOfTwo EndsBefore calls

-- ---- what it makes of it

-- the cell stands in one of the lists
abbrev pub IsTaken : Cell → List (List Cell) → Type 0
IsTaken c calls = (cells : List Cell) × (Stands c cells × Stands cells calls)

-- the cell is of this face, and its patch contains the point
abbrev pub is_cell_at : Space → FaceKind → Surface → Spot → Cell → Bool
is_cell_at s k f p c =
    is_same_face c.patch.face (record { space = s.number; kind = k }) && is_in_patch f c.patch p

-- on a face of a space
pub record AreJoinedOn (m : Building) (calls : List (List Cell)) (answer : List Cell)
    (s : Space) (k : FaceKind) (f : Surface) : Type 0 where
  -- each point in a patch of this face is a point of the face
  pub inside : (p : Spot) → IsSpot p → is_in_plane f p ≡ true
      → (c : Cell) → Stands c answer → is_cell_at s k f p c ≡ true
      → is_of_face s.prism k p ≡ true
  -- a plain point that lies in a cell of this face lies in exactly one patch of it
  pub once : (p : Spot) → IsSpot p → is_plain m s.prism k p ≡ true
      → (c : Cell) → IsTaken c calls → is_cell_at s k f p c ≡ true
      → ExactlyOne (is_cell_at s k f p) answer
  -- and this patch has the cell's walk
  pub walks : (p : Spot) → IsSpot p → is_plain m s.prism k p ≡ true
      → (c : Cell) → IsTaken c calls → is_cell_at s k f p c ≡ true
      → (b : Cell) → Stands b answer → is_cell_at s k f p b ≡ true → b.walk ≡ c.walk
  -- any other plain point lies in none
  pub none : (p : Spot) → IsSpot p → is_plain m s.prism k p ≡ true
      → ((c : Cell) → IsTaken c calls → is_cell_at s k f p c ≡ true → ⊥)
      → list_any (is_cell_at s k f p) answer ≡ false

-- the trimmed patches of the cells
pub record AreJoined (m : Building) (calls : List (List Cell)) (answer : List Cell) : Type 0 where
  -- each stands on the face of a cell
  pub on_faces : (c : Cell) → Stands c answer
      → (b : Cell) × (IsTaken b calls × (b.patch.face ≡ c.patch.face))
  -- two of one face with equal walks neither touch nor share a whole side
  pub trimmed : AllOfTwo
      (λ b c. b.patch.face ≡ c.patch.face → b.walk ≡ c.walk → AreTrimmed m b.patch c.patch) answer
  -- and on each face
  pub faces : (s : Space) → Stands s m.spaces → (k : FaceKind) → (f : Surface)
      → surface_of s.prism k ≡ Some f → AreJoinedOn m calls answer s k f
