-- Between the lines of the two edges beside a gap stands a strip of Bottom and of Top.

use Rattle.std.proofs.Common.{◌≡◌, subst, ℕ, true, false, IsTrue, ◌&&◌, ◌≤◌, unsigned_abs}
use Rattle.sb_fraction.specs.declared.direction.Line.{Line}
use Rattle.sb_fraction.specs.Directions.{direction_of, offset_of}
use Rattle.sb_fraction.specs.Edges.{are_collinear}
use Rattle.sb_fraction.specs.Lines.{arrow_along, flat}
use Rattle.sb_fraction.specs.Numbers.{number}
use Rattle.sb_model.specs.declared.faces.face.FaceKind.{FaceKind}
use Rattle.sb_model.specs.declared.faces.face.Side.TheVariants.{OnLine}
use Rattle.sb_model.specs.Building.{Building, is_building}
use Rattle.sb_model.specs.PlanEdges.{PlanEdge, plan_edges}
use Rattle.sb_model.specs.Surfaces.Sides.{is_abscissa_size, is_patch, greatest_offset}
use Rattle.theory_lines.specs.Slabs.{IsSlab, IsSlabOrder}
use Rattle.theory_gaps.specs.Gaps.{edges_at}
use Rattle.sb_frame.specs.Directions.{along_x}
use Rattle.sb_frame.specs.declared.slab.Slab.{Slab}
use Rattle.sb_walk.specs.GapsBetween.{IsBetween}
use Rattle.sb_walk.specs.Overlaps.{IsSlabOf}
use Rattle.sb_walk.specs.PointsOfCells.{is_level}
use Rattle.sb_walk.proofs.EdgesBeside.{of_order, beside_is_under, first_stands, second_stands}
use Rattle.sb_walk.proofs.Ranges.LinesOfEdges.{patch_between}

-- the slab of a slab of the model
pub slab_of : (m : Building) (slab : Slab) → IsSlabOf m slab → arrow_along slab.direction ≡ along_x
    → IsSlab m along_x (number slab.low) (number slab.high)
slab_of m slab of_model direction =
    subst (λ d. IsSlab m d (number slab.low) (number slab.high)) direction of_model.neighbours.slab

-- and its order
pub order_of : (m : Building) (slab : Slab) → IsSlabOf m slab → arrow_along slab.direction ≡ along_x
    → IsSlabOrder (plan_edges m) along_x (number slab.low) (number slab.high) slab.order
order_of m slab of_model direction =
    subst (λ d. IsSlabOrder (plan_edges m) d (number slab.low) (number slab.high) slab.order) direction
    of_model.order

-- between two lines stands a patch of either
pub has_patch : (m : Building) → IsTrue (is_building m) → (slab : Slab) → IsSlabOf m slab
    → arrow_along slab.direction ≡ along_x
    → IsTrue (is_abscissa_size slab.low && is_abscissa_size slab.high) → (j : ℕ) (e f : PlanEdge)
    → IsBetween (edges_at (plan_edges m) slab.order) j e f → are_collinear e.edge f.edge ≡ false
    → (l k : Line) → flat (arrow_along l.dir) ≡ direction_of e.edge → l.off ≡ offset_of e.edge
    → unsigned_abs l.off ≤ greatest_offset → flat (arrow_along k.dir) ≡ direction_of f.edge
    → k.off ≡ offset_of f.edge → unsigned_abs k.off ≤ greatest_offset → (face : FaceKind)
    → is_level face ≡ true → IsTrue (is_patch face slab.low slab.high (OnLine l) (OnLine k))
has_patch m valid slab of_model direction ends j e f between apart l k l_dir l_off l_size k_dir k_off k_size
    face level =
    let is = slab_of m slab of_model direction in
    let order = order_of m slab of_model direction in
    let row = edges_at (plan_edges m) slab.order in
    let own_e =
    of_order m valid (number slab.low) (number slab.high) is slab.order order e
    (first_stands row j e f between)
    in
    let own_f =
    of_order m valid (number slab.low) (number slab.high) is slab.order order f
    (second_stands row j e f between)
    in
    patch_between slab.low slab.high l k e.edge f.edge ends is.low_in is.high_in is.wide own_e.proper
    own_f.proper l_dir l_off l_size k_dir k_off k_size own_e.over own_f.over
    (beside_is_under m valid (number slab.low) (number slab.high) is slab.order order j e f between apart)
    face level
