-- Strips of a slab, and cells as they are made of them.

use Rattle.std.specs.Prelude.{◌≡◌, ℕ, ℤ, List, None}
use Rattle.sb_fraction.specs.Directions.{direction_of, offset_of}
use Rattle.sb_fraction.specs.Lines.{arrow_along, flat}
use Rattle.sb_model.specs.declared.boundary.Cell.{Cell}
use Rattle.sb_model.specs.declared.faces.face.Side.TheVariants.{OnLine}
use Rattle.sb_model.specs.declared.patches.patch.Patch.{Patch}
use Rattle.sb_model.specs.declared.products.Space.{Space}
use Rattle.sb_model.specs.Building.{Building}
use Rattle.sb_model.specs.PlanEdges.{PlanEdge}
use Rattle.sb_model.specs.Walks.{course_of}
use Rattle.sb_frame.specs.declared.slab.Slab.{Slab}
use Rattle.sb_walk.specs.declared.strip.Strip.{Strip}
use Rattle.sb_walk.specs.declared.way.Way.{Way}
use Rattle.sb_walk.specs.declared.way.Way.TheVariants as way
use Rattle.sb_walk.specs.Ways.{normal_of}
use Rattle.sb_walk.specs.WalksInGaps.{face_of, read_for}

-- between the lines of two edges over a slab
pub record HasStrip (slab : Slab) (below above : PlanEdge) (strip : Strip) : Type 0 where
  pub low : strip.low ≡ slab.low
  pub high : strip.high ≡ slab.high
  pub lower_dir : flat (arrow_along strip.lower.dir) ≡ direction_of below.edge
  pub lower_off : strip.lower.off ≡ offset_of below.edge
  pub upper_dir : flat (arrow_along strip.upper.dir) ≡ direction_of above.edge
  pub upper_off : strip.upper.off ≡ offset_of above.edge

-- the patch of a face of a space in it
pub record IsOn (strip : Strip) (space : ℕ) (w : Way) (p : Patch) : Type 0 where
  pub space_is : p.face.space ≡ space
  pub kind_is : p.face.kind ≡ face_of w
  pub low : p.low ≡ strip.low
  pub high : p.high ≡ strip.high
  pub lower : p.lower ≡ OnLine strip.lower
  pub upper : p.upper ≡ OnLine strip.upper

-- its cell, with what is read there
pub record IsMade (m : Building) (strip : Strip) (present : List ℕ) (positions : List ℤ) (s : Space) (w : Way)
    (c : Cell) : Type 0 where
  pub patch : IsOn strip s.number w c.patch
  pub walk : course_of c.walk ≡ read_for m (normal_of w) present positions s.prism
  pub key : c.key ≡ None

-- with the positions of its own way
abbrev pub are_made : Building → Strip → List ℕ → List ℤ → List ℤ → Space → Way → Cell → Type 0
are_made m strip present down up s way.Down = IsMade m strip present down s way.Down
are_made m strip present down up s way.Up = IsMade m strip present up s way.Up
