-- What is read by the products that are present in a gap is the walk of its plain points.

use Rattle.std.proofs.Common.{◌≡◌, refl, sym, ap, ap₂, ◌∙◌, subst, inl, inr, ◌⊎◌, ℕ, zero, suc, ℤ, ◌<◌}
use Rattle.std.proofs.Common.{true, IsTrue, List, [], ◌∷◌, map, Some, take, length, Result, IfOk}
use Rattle.std.specs.List.{AllByRecursion}
use Rattle.std.specs.declared.alloc.AllocError.{AllocError}
use Rattle.std.proofs.lemmas.Result.{IfOk-weaker}
use Rattle.std.specs.Ordering.{int_cmp}
use Rattle.sb_fraction.specs.Lines.{arrow_along}
use Rattle.sb_fraction.specs.Numbers.{number}
use Rattle.sb_fraction.specs.Spots.{Spot, IsSpot, Vector}
use Rattle.sb_model.specs.declared.faces.face.FaceKind.{FaceKind}
use Rattle.sb_model.specs.declared.faces.face.FaceKind.TheVariants as kind
use Rattle.sb_model.specs.declared.products.Space.{Space}
use Rattle.sb_model.specs.declared.walk.Walk.{Walk}
use Rattle.sb_model.specs.Building.{Building, is_building}
use Rattle.sb_model.specs.Surfaces.Faces.{Surface, surface_of, bottom_of, top_of}
use Rattle.sb_model.specs.PlanEdges.{PlanEdge, plan_edges}
use Rattle.sb_model.specs.Surfaces.PlainPoints.{is_plain}
use Rattle.sb_model.specs.Walks.{course_of, IsWalk}
use Rattle.theory_lines.specs.Slabs.{IsSlab, IsSlabOrder}
use Rattle.theory_sight.specs.Reading.{square, read}
use Rattle.theory_gaps.specs.Gaps.{edges_at, edges_before, IsGapOf}
use Rattle.theory_gaps.specs.Borders.{border, stretches_of, label_behind, stretches_through}
use Rattle.theory_gaps.specs.Borders.{ground_along}
use Rattle.theory_gaps.proofs.Gaps.ThroughGaps.{has_walk_up_and_down}
use Rattle.sb_frame.specs.Directions.{along_x}
use Rattle.sb_frame.specs.Network.{Network, IsNetwork}
use Rattle.sb_frame.specs.Rising.{IsRisingOf}
use Rattle.sb_frame.specs.declared.slab.Slab.{Slab}
use Rattle.sb_walk.specs.declared.way.Way.{Way}
use Rattle.sb_walk.specs.declared.way.Way.TheVariants as way
use Rattle.sb_walk.specs.Overlaps.{IsSlabOf}
use Rattle.sb_walk.specs.Present.{ArePresent}
use Rattle.sb_walk.specs.Ways.{normal_of}
use Rattle.sb_walk.specs.Behind.{label_on, read_on, ends_of}
use Rattle.sb_walk.specs.WalksInGaps.{IsWalkInGap, positions_after, read_for}
use Rattle.sb_walk.proofs.WalksRead.LabelsOfPresent.{label_is}
use Rattle.sb_walk.proofs.PositionsCounted.{have_heights}
use Rattle.sb_walk.proofs.SharedGaps.{x_is_way, places_in}

module _ (m : Building) (valid : IsTrue (is_building m)) (n : Vector) (passed : List PlanEdge)
    (present : List ℕ) (are : ArePresent passed present) where
  same_borders : (heights : List ℤ)
      → map (λ z. border (square z) (label_on m n present z)) heights
      ≡ map (λ z. border (square z) (label_behind m n passed z)) heights
  same_borders [] = refl
  same_borders (z ∷ zs) =
      ap₂ (λ l bs. border (square z) l ∷ bs) (label_is m valid n passed present are z) (same_borders zs)

  -- the same is read
  read_is : (x0 : ℤ) (heights : List ℤ)
      → read_on m n present x0 heights
      ≡ read m n x0 x0 (stretches_through m n passed x0 heights)
  read_is x0 heights =
      ap₂ (λ l bs. read m n x0 x0 (stretches_of l bs)) (label_is m valid n passed present are x0)
      (same_borders heights)

-- ---- either face

module _ (m : Building) (valid : IsTrue (is_building m)) (slab : Slab) (of_model : IsSlabOf m slab)
    (direction : arrow_along slab.direction ≡ along_x) (j : ℕ) (s : Space) (present : List ℕ)
    (are : ArePresent (edges_before (plan_edges m) slab.order j) present) where
  -- of Bottom or Top
  on_face : (k : FaceKind) → (k ≡ kind.Bottom) ⊎ (k ≡ kind.Top) → (f : Surface)
      → surface_of s.prism k ≡ Some f → (list : List ℤ)
      → IsRisingOf int_cmp (ground_along f.normal m.ground_height ∷ ends_of m f.normal present) list
      → (walk : Walk)
      → course_of walk ≡ read_on m f.normal present f.position (positions_after f.position list)
      → (p : Spot) → IsSpot p → is_plain m s.prism k p ≡ true
      → IsGapOf m along_x (number slab.low) (number slab.high) slab.order p j → IsWalk m f p walk
  on_face k level f f_is list is walk walk_is p p_is plain gap =
      (has_walk_up_and_down m valid s k f level f_is along_x (number slab.low) (number slab.high)
      x_is_way
      (subst (λ d. IsSlab m d (number slab.low) (number slab.high)) direction of_model.neighbours.slab)
      slab.order
      (subst (λ d. IsSlabOrder (plan_edges m) d (number slab.low) (number slab.high) slab.order)
      direction of_model.order)
      p p_is plain j gap (positions_after f.position list)
      (have_heights m valid f.normal (edges_before (plan_edges m) slab.order j) present are list is
      f.position) walk).1
      (walk_is
      ∙ read_is m valid f.normal (edges_before (plan_edges m) slab.order j) present are f.position
      (positions_after f.position list))

  -- the walk that is read for a face is that of its plain points in the gap
  pub walk_in_gap : (w : Way) (list : List ℤ)
      → IsRisingOf int_cmp
      (ground_along (normal_of w) m.ground_height ∷ ends_of m (normal_of w) present) list
      → (walk : Walk) → course_of walk ≡ read_for m (normal_of w) present list s.prism
      → IsWalkInGap m slab j s w walk
  walk_in_gap way.Down list is walk walk_is p p_is plain gap =
      on_face kind.Bottom (inl refl) (bottom_of s.prism) refl list is walk walk_is p p_is plain gap
  walk_in_gap way.Up list is walk walk_is p p_is plain gap =
      on_face kind.Top (inr refl) (top_of s.prism) refl list is walk walk_is p p_is plain gap

-- ---- by the calls

-- the places of the order are places of edges
pub places_fit : (m : Building) → IsTrue (is_building m) → (edges : Network) → IsNetwork m edges
    → (slab : Slab) → IsSlabOf m slab
    → arrow_along slab.direction ≡ along_x → (j : ℕ)
    → (front order : List ℕ) → front ≡ take j order → order ≡ slab.order
    → AllByRecursion (λ k. k < length edges.edges) front
places_fit m valid edges network slab of_model direction j front order is order_is =
    subst (AllByRecursion (λ k. k < length edges.edges)) (sym (is ∙ ap (take j) order_is))
    (subst (λ es. AllByRecursion (λ k. k < length es) (take j slab.order)) (sym network.edges)
    (first_of j slab.order
    (places_in m valid (number slab.low) (number slab.high)
    (subst (λ d. IsSlab m d (number slab.low) (number slab.high)) direction of_model.neighbours.slab)
    slab.order
    (subst (λ d. IsSlabOrder (plan_edges m) d (number slab.low) (number slab.high) slab.order) direction
    of_model.order))))
  where
    first_of : (i : ℕ) (ks : List ℕ) → AllByRecursion (λ k. k < length (plan_edges m)) ks
        → AllByRecursion (λ k. k < length (plan_edges m)) (take i ks)
    first_of zero ks all = tt
    first_of (suc i) [] all = tt
    first_of (suc i) (k ∷ ks) all = (all.0, first_of i ks all.1)

-- the walk that is made
pub walk_is_made : (m : Building) → IsTrue (is_building m) → (edges : Network) → IsNetwork m edges
    → (slab : Slab) → IsSlabOf m slab → arrow_along slab.direction ≡ along_x → (j : ℕ) (s : Space)
    (w : Way) → (front order : List ℕ) → front ≡ take j order → order ≡ slab.order
    → (present : List ℕ) → ArePresent (edges_at edges.edges front) present → (seen : List ℕ)
    → seen ≡ present → (ground_at : ℤ) → ground_at ≡ ground_along (normal_of w) m.ground_height
    → (list : List ℤ) → IsRisingOf int_cmp (ground_at ∷ ends_of m (normal_of w) seen) list
    → (heights : List ℤ) → heights ≡ list → (again : List ℕ) → again ≡ present
    → (r : Result Walk AllocError)
    → IfOk r (λ walk. course_of walk ≡ read_for m (normal_of w) again heights s.prism)
    → IfOk r (IsWalkInGap m slab j s w)
walk_is_made m valid edges network slab of_model direction j s w front order front_is order_is present are
    seen seen_is ground_at ground_is list is heights heights_is again again_is r made =
    IfOk-weaker r (λ walk. course_of walk ≡ read_for m (normal_of w) again heights s.prism)
    (IsWalkInGap m slab j s w)
    (λ walk walk_is.
    walk_in_gap m valid slab of_model direction j s present
    (subst (λ es. ArePresent es present)
    (ap (edges_at edges.edges) (front_is ∙ ap (take j) order_is)
    ∙ ap (λ es. edges_at es (take j slab.order)) network.edges) are)
    w list
    (subst (λ g. IsRisingOf int_cmp (g ∷ ends_of m (normal_of w) present) list) ground_is
    (subst (λ ks. IsRisingOf int_cmp (ground_at ∷ ends_of m (normal_of w) ks) list) seen_is is)) walk
    (walk_is
    ∙ ap (λ ks. read_for m (normal_of w) ks heights s.prism) again_is
    ∙ ap (λ zs. read_for m (normal_of w) present zs s.prism) heights_is))
    made
