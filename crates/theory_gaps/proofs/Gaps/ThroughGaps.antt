-- The walk up or down of a plain point is what is read in its gap.
use Rattle.std.proofs.Common.{◌≡◌, subst, ◌↔◌, ◌⊎◌, inl, inr, ℤ, neg_ℤ, ◌*ℤ◌, true, not}
use Rattle.std.proofs.Common.{false, IsTrue, List, Some}
use Rattle.std.specs.Ordering.{int_eq}
use Rattle.std.proofs.lemmas.Bool.{and_parts}
use Rattle.std.proofs.lemmas.Bool.Decides.{Decides-int_eq}
use Rattle.theory_numbers.specs.Arrows.{Arrow}
use Rattle.sb_fraction.specs.Spots.{Spot, IsSpot}
use Rattle.theory_plans.specs.Inside.{is_in_plan}
use Rattle.sb_model.specs.declared.faces.face.FaceKind.{FaceKind}
use Rattle.sb_model.specs.declared.faces.face.FaceKind.TheVariants as kind
use Rattle.sb_model.specs.declared.products.Space.{Space}
use Rattle.sb_model.specs.declared.walk.Walk.{Walk}
use Rattle.sb_model.specs.Building.{Building, is_building}
use Rattle.sb_model.specs.Surfaces.Faces.{Surface, surface_of, top_of, bottom_of, is_of_face}
use Rattle.sb_model.specs.Surfaces.PlainPoints.{is_plain, is_off_level_cuts, is_on_plan_edge}
use Rattle.sb_model.specs.PlanEdges.{PlanEdge, plan_edges}
use Rattle.sb_model.specs.Walks.{course_of, IsWalk}
use Rattle.theory_parity.specs.Below.{IsWay}
use Rattle.theory_sight.specs.Reading.{read}
use Rattle.theory_gaps.specs.Borders.{HaveHeights, stretches_through}
use Rattle.theory_gaps.specs.Laws.{HasWalkUpAndDown}
use Rattle.theory_gaps.proofs.Gaps.GapsOfPoints.{gap_is_below}
use Rattle.theory_gaps.proofs.OneWalkEach.{not_true, starts_up, starts_down}
use Rattle.theory_gaps.proofs.Rays.WalkUpAndDown.{AreBelow, walk_through}
use Rattle.theory_gaps.specs.Gaps.{edges_before}

-- what is read for a face, whichever of the two it is
abbrev IsReadThrough : Building → Spot → List PlanEdge → List ℤ → Walk → Surface → Type 0
IsReadThrough m p passed heights w f =
    HaveHeights m f.normal passed f.position heights
    → IsWalk m f p w
    ↔ (course_of w
    ≡ read m f.normal f.position f.position (stretches_through m f.normal passed f.position heights))

of_surface : (m : Building) (p : Spot) (passed : List PlanEdge) (heights : List ℤ) (w : Walk)
    (g f : Surface) → Some g ≡ Some f → IsReadThrough m p passed heights w g
    → IsReadThrough m p passed heights w f
of_surface m p passed heights w g f same is =
    let one : g ≡ f = cc in subst (IsReadThrough m p passed heights w) one is

-- either face
pub read_in_gap : (m : Building) → IsTrue (is_building m) → (s : Space) (k : FaceKind) (f : Surface)
    → (k ≡ kind.Bottom) ⊎ (k ≡ kind.Top) → surface_of s.prism k ≡ Some f → (d : Arrow) → IsWay d
    → (p : Spot) → IsSpot p → is_plain m s.prism k p ≡ true → (passed : List PlanEdge)
    → AreBelow m d p passed → (heights : List ℤ) (w : Walk) → IsReadThrough m p passed heights w f
read_in_gap m valid s k f (inr top) f_is d d_is p p_is plain passed below heights w =
    let of_top = subst (λ t. surface_of s.prism t ≡ Some f) top f_is in
    let plain_top = subst (λ t. is_plain m s.prism t p ≡ true) top plain in
    let parts = and_parts (is_of_face s.prism kind.Top p) (is_off_level_cuts m p) plain_top in
    let height =
    (Decides-int_eq p.z (s.prism.z1 *ℤ p.w)).0
    (and_parts (is_in_plan s.prism.loops p) (int_eq p.z (s.prism.z1 *ℤ p.w)) parts.0).1
    in
    of_surface m p passed heights w (top_of s.prism) f of_top
    (λ have.
    walk_through m valid true p s.prism.z1 (starts_up s.prism p height) p_is d d_is
    (not_true (is_on_plan_edge m p) (and_parts (not (is_on_plan_edge m p)) _ parts.1).0) passed below
    heights have w)
read_in_gap m valid s k f (inl bottom) f_is d d_is p p_is plain passed below heights w =
    let of_bottom = subst (λ t. surface_of s.prism t ≡ Some f) bottom f_is in
    let plain_bottom = subst (λ t. is_plain m s.prism t p ≡ true) bottom plain in
    let parts = and_parts (is_of_face s.prism kind.Bottom p) (is_off_level_cuts m p) plain_bottom in
    let height =
    (Decides-int_eq p.z (s.prism.z0 *ℤ p.w)).0
    (and_parts (is_in_plan s.prism.loops p) (int_eq p.z (s.prism.z0 *ℤ p.w)) parts.0).1
    in
    of_surface m p passed heights w (bottom_of s.prism) f of_bottom
    (λ have.
    walk_through m valid false p (neg_ℤ s.prism.z0) (starts_down s.prism p height) p_is d d_is
    (not_true (is_on_plan_edge m p) (and_parts (not (is_on_plan_edge m p)) _ parts.1).0) passed below
    heights have w)

-- the law
pub has_walk_up_and_down : HasWalkUpAndDown
has_walk_up_and_down m valid s k f level f_is d low high d_is slab order is p p_is plain j gap heights
    have w =
    read_in_gap m valid s k f level f_is d d_is p p_is plain (edges_before (plan_edges m) order j)
    (gap_is_below m d low high slab order is p p_is j gap) heights w have
