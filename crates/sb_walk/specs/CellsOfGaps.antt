-- The cells of Bottom and Top in a gap of a slab's order.

use Rattle.std.specs.Prelude.{◌≡◌, ℕ, true, List, [], ◌∷◌, Option, Some, None}
use Rattle.sb_fraction.specs.Directions.{axis_x}
use Rattle.sb_fraction.specs.Spots.{Spot, IsSpot}
use Rattle.sb_model.specs.declared.boundary.Cell.{Cell}
use Rattle.sb_model.specs.declared.products.Space.{Space}
use Rattle.sb_model.specs.Building.{Building}
use Rattle.sb_model.specs.Surfaces.Faces.{is_in_plane, is_of_face, space_numbered}
use Rattle.sb_model.specs.Surfaces.FineCells.{IsFineCell, IsLineOf}
use Rattle.sb_model.specs.Surfaces.Patches.{is_in_patch}
use Rattle.sb_model.specs.Surfaces.PlainPoints.{is_plain}
use Rattle.sb_model.specs.PlanEdges.{PlanEdge}
use Rattle.sb_model.specs.Surfaces.Sides.{line_of}
use Rattle.sb_model.specs.Walks.{IsWalk}
use Rattle.sb_frame.specs.declared.slab.Slab.{Slab}
use Rattle.sb_walk.specs.declared.way.Way.{Way}
use Rattle.sb_walk.specs.declared.way.Way.TheVariants as way
use Rattle.sb_walk.specs.WalksInGaps.{face_of, surface_on}

-- the cell of a face of a space between the lines of two edges over a slab of (1, 0): a fine cell, all of
-- whose points are points of the face, with the walk of each of its plain points, and without a key
pub record IsCellIn (m : Building) (slab : Slab) (below above : PlanEdge) (s : Space) (w : Way) (c : Cell)
    : Type 0 where
  pub space : c.patch.face.space ≡ s.number
  pub kind : c.patch.face.kind ≡ face_of w
  pub low : c.patch.low ≡ slab.low
  pub high : c.patch.high ≡ slab.high
  pub lower : IsLineOf (line_of c.patch.lower) below.edge
  pub upper : IsLineOf (line_of c.patch.upper) above.edge
  pub fine : IsFineCell m axis_x c.patch
  pub inside : (p : Spot) → IsSpot p → is_in_plane (surface_on w s.prism) p ≡ true
      → is_in_patch (surface_on w s.prism) c.patch p ≡ true → is_of_face s.prism (face_of w) p ≡ true
  pub walk : (p : Spot) → IsSpot p → is_plain m s.prism (face_of w) p ≡ true
      → is_in_patch (surface_on w s.prism) c.patch p ≡ true → IsWalk m (surface_on w s.prism) p c.walk
  pub key : c.key ≡ None

-- two cells, of Bottom and of Top of this space, and then the rest; nothing before the rest where there is
-- no space
abbrev pub AreForOne : (Space → Way → Cell → Type 0) → (List Cell → Type 0) → Option Space → List Cell
    → Type 0
AreForOne P Rest None cells = Rest cells
AreForOne P Rest (Some s) (b ∷ t ∷ cells) = P s way.Down b × (P s way.Up t × Rest cells)
AreForOne P Rest (Some s) (b ∷ []) = ⊥
AreForOne P Rest (Some s) [] = ⊥

-- for each of these numbers that is a space's the cell of its Bottom and that of its Top, in this order,
-- and no others
abbrev pub AreForEach : Building → (Space → Way → Cell → Type 0) → List ℕ → List Cell → Type 0
AreForEach m P [] [] = Unit {0}
AreForEach m P [] (c ∷ cells) = ⊥
AreForEach m P (n ∷ ns) cells = AreForOne P (AreForEach m P ns) (space_numbered m n) cells
