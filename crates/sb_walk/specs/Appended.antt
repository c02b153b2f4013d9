-- Cells of Bottom and Top, appended gap after gap.

use Rattle.std.specs.Prelude.{◌≡◌, ℕ, Bool, true, false, List, [], ◌++◌}
use Rattle.sb_fraction.specs.Edges.{are_collinear}
use Rattle.sb_model.specs.declared.boundary.Cell.{Cell}
use Rattle.sb_model.specs.Building.{Building}
use Rattle.sb_model.specs.PlanEdges.{PlanEdge, plan_edges}
use Rattle.theory_gaps.specs.Gaps.{edges_before}
use Rattle.sb_frame.specs.declared.slab.Slab.{Slab}
use Rattle.sb_walk.specs.CellsOfGaps.{IsCellIn, AreForEach}
use Rattle.sb_walk.specs.Present.{ArePresent}

-- of gap j between two edges: none where these are collinear, else those of the spaces that are present
-- there
abbrev pub AreOfGap : Building → Slab → ℕ → PlanEdge → PlanEdge → Bool → List Cell → Type 0
AreOfGap m slab j e f true cells = cells ≡ []
AreOfGap m slab j e f false cells =
    (present : List ℕ)
    × (ArePresent (edges_before (plan_edges m) slab.order j) present
    × AreForEach m (IsCellIn m slab e f) present cells)

-- the cells of gap j are appended
pub record AppendsGap (m : Building) (slab : Slab) (j : ℕ) (e f : PlanEdge) (old new : List Cell)
    : Type 0 where
  pub own : List Cell
  pub appended : new ≡ old ++ own
  pub of_gap : AreOfGap m slab j e f (are_collinear e.edge f.edge) own
