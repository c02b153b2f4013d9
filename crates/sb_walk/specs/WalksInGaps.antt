-- The walks of Bottom and Top, gap by gap.

use Rattle.std.specs.Prelude.{◌≡◌, ℕ, ℤ, true, List, [], ◌∷◌, int_lt, if◌then◌else◌}
use Rattle.sb_fraction.specs.Numbers.{number}
use Rattle.sb_fraction.specs.Spots.{Spot, IsSpot, Vector}
use Rattle.sb_model.specs.declared.faces.face.FaceKind.{FaceKind}
use Rattle.sb_model.specs.declared.faces.face.FaceKind.TheVariants as kind
use Rattle.sb_model.specs.declared.products.Space.{Space}
use Rattle.sb_model.specs.declared.walk.Walk.{Walk}
use Rattle.sb_model.specs.Building.{Building}
use Rattle.sb_model.specs.Surfaces.Faces.{Surface, bottom_of, top_of}
use Rattle.sb_model.specs.Surfaces.PlainPoints.{is_plain}
use Rattle.sb_model.specs.Solids.{Upright}
use Rattle.sb_model.specs.Walks.{Course, IsWalk}
use Rattle.theory_gaps.specs.Borders.{exit_along}
use Rattle.theory_gaps.specs.Gaps.{IsGapOf}
use Rattle.sb_frame.specs.declared.slab.Slab.{Slab}
use Rattle.sb_frame.specs.Directions.{along_x}
use Rattle.sb_walk.specs.Behind.{read_on}
use Rattle.sb_walk.specs.declared.way.Way.{Way}
use Rattle.sb_walk.specs.declared.way.Way.TheVariants as way

-- Bottom looks down, Top up
abbrev pub face_of : Way → FaceKind
face_of way.Down = kind.Bottom
face_of way.Up = kind.Top

abbrev pub surface_on : Way → Upright → Surface
surface_on way.Down s = bottom_of s
surface_on way.Up s = top_of s

-- each plain point of this face of the space that lies in gap j of a slab of (1, 0) has this walk
abbrev pub IsWalkInGap : Building → Slab → ℕ → Space → Way → Walk → Type 0
IsWalkInGap m slab j s w walk =
    (p : Spot) → IsSpot p → is_plain m s.prism (face_of w) p ≡ true
    → IsGapOf m along_x (number slab.low) (number slab.high) slab.order p j
    → IsWalk m (surface_on w s.prism) p walk

-- ---- steps

-- those of rising positions that lie behind one
abbrev pub positions_after : ℤ → List ℤ → List ℤ
positions_after x0 [] = []
positions_after x0 (z ∷ zs) = if int_lt x0 z then z ∷ zs else positions_after x0 zs

-- the walk out of a prism, through these products
abbrev pub read_for : Building → Vector → List ℕ → List ℤ → Upright → Course
read_for m n present positions s =
    let x0 = exit_along n s in read_on m n present x0 (positions_after x0 positions)
