-- The law of reversed walks, for each plain point of each face.
use Rattle.std.proofs.Common.{◌≡◌, refl, sym, ap, arith, subst, ℕ, pos, neg_ℤ, ◌*ℤ◌, true}
use Rattle.std.proofs.Common.{not, IsTrue, Option, Some, None}
use Rattle.std.specs.Ordering.{int_eq}
use Rattle.std.proofs.lemmas.Int.{ints}
use Rattle.std.proofs.lemmas.Bool.{and_parts}
use Rattle.std.proofs.lemmas.Bool.Decides.{Decides-int_eq}
use Rattle.std.proofs.lemmas.Option.{none-some}
use Rattle.theory_lists.specs.Members.{Stands}
use Rattle.theory_lists.proofs.Members.{stands_at}
use Rattle.theory_numbers.specs.Arrows.{arrow, dot}
use Rattle.sb_fraction.specs.Crossings.{abscissa_at}
use Rattle.sb_fraction.specs.Directions.{direction_of}
use Rattle.sb_fraction.specs.Edges.{Edge, is_on}
use Rattle.sb_fraction.specs.Spots.{Spot, IsSpot, reading}
use Rattle.theory_plans.specs.Inside.{is_in_plan}
use Rattle.theory_plans.specs.LoopEdges.{edges_of}
use Rattle.theory_plans.proofs.Edges.EdgesOfPlans.{plan_edges_are_proper}
use Rattle.theory_plans.proofs.Edges.StepsOfEdges.{step_is}
use Rattle.sb_model.specs.declared.faces.face.FaceKind.{FaceKind}
use Rattle.sb_model.specs.declared.faces.face.FaceKind.TheVariants as kind
use Rattle.sb_model.specs.declared.products.Space.{Space}
use Rattle.sb_model.specs.declared.walk.End.TheVariants as end
use Rattle.sb_model.specs.declared.walk.Walk.{Walk}
use Rattle.sb_model.specs.Building.{Building, is_building}
use Rattle.sb_model.specs.Surfaces.Faces.{Surface, surface_of, side_of, side_over, edge_numbered, bottom_of, top_of}
use Rattle.sb_model.specs.Surfaces.Faces.{is_of_face, is_of_side}
use Rattle.sb_model.specs.Passages.{ray_from}
use Rattle.sb_model.specs.Surfaces.PlainPoints.{is_plain, is_off_cuts, is_off_side_cuts, is_off_level_cuts}
use Rattle.sb_model.specs.Surfaces.PlainPoints.{is_on_plan_edge, is_at_height, is_at_ground}
use Rattle.sb_model.specs.PlanEdges.{plan_edges, is_abscissa}
use Rattle.sb_model.specs.Solids.{is_between_heights}
use Rattle.sb_model.specs.Walks.{IsWalk}
use Rattle.theory_models.proofs.EdgesOfProducts.{plan_of_solid}
use Rattle.theory_parity.specs.Below.{IsWay}
use Rattle.theory_gaps.proofs.OneWalkEach.{plain_is_read, proper_there, not_true, starts_up, starts_down}
use Rattle.theory_gaps.proofs.Rays.PointsOnTheRay.{frame_of, abscissa}
use Rattle.theory_gaps.proofs.Rays.RaysOfFaces.{normal_of, normal_is, normal_is_some, side_starts}
use Rattle.theory_gaps.proofs.Rays.RaysOfFaces.{side_has_no_abscissa}
use Rattle.theory_gaps.proofs.RowsThatRise.{passed_of, row_of, is_row, below_of, are_below}
use Rattle.theory_mirrors.specs.Laws.{HaveNoOverlap, HasWayBack, HasReversedWalks, far_point}
use Rattle.theory_mirrors.proofs.ArrivalsOnSides.{sees_from_side}
use Rattle.theory_mirrors.proofs.RaysOfFaces.SpacesOnUprightRays.{sees_from_top, sees_from_bottom}
use Rattle.theory_mirrors.proofs.TheLaw.{read_from, has_way_back}
use Rattle.theory_mirrors.proofs.RaysOfFaces.WaysFromFaces.{SeesFromFace}
use Rattle.theory_sight.specs.Crossings.{StartsAt}

level_is_way : IsWay (arrow (pos 1) (pos 0))
unfolding dot
level_is_way = omega (arith, ints)

module _ (m : Building) (valid : IsTrue (is_building m)) (alone : HaveNoOverlap m) (s : Space)
    (s_in : Stands s m.spaces) (k : FaceKind) (f : Surface) (f_is : surface_of s.prism k ≡ Some f)
    (p : Spot) (p_is : IsSpot p) (plain : is_plain m s.prism k p ≡ true) (w : Walk)
    (walks : IsWalk m f p w) (to : ℕ) (ends : w.end ≡ end.Space to) where
  -- the surface is the one that is seen from
  from_surface : (g : Surface) → Some g ≡ Some f → StartsAt (ray_from p g.normal) g.position
      → SeesFromFace m (ray_from p g.normal) g.position s
      → HasWayBack m f w s.number to (far_point p f w)
  from_surface g same starts view =
      let one : g ≡ f = cc in
      let begins = subst (λ (h : Surface). StartsAt (ray_from p h.normal) h.position) one starts in
      has_way_back m valid alone s f p p_is begins
      (read_from m (ray_from p f.normal) f.position begins
      (plain_is_read m valid s k f f_is p p_is plain))
      (subst (λ (h : Surface). SeesFromFace m (ray_from p h.normal) h.position s) one view) w walks to
      ends

-- from a side
side_turns : (m : Building) → IsTrue (is_building m) → (s : Space) → Stands s m.spaces → (e : Edge)
    → Stands e (edges_of s.prism.loops) → (p : Spot) → IsSpot p
    → is_of_side s.prism (Some e) p ≡ true → is_off_side_cuts m (Some e) p ≡ true
    → StartsAt (ray_from p (side_over e).normal) (side_over e).position
    × SeesFromFace m (ray_from p (side_over e).normal) (side_over e).position s
side_turns m valid s s_in e e_in p p_is of_side off =
    let steps =
    step_is e
    (proper_there e (edges_of s.prism.loops)
    (plan_edges_are_proper s.prism.loops (plan_of_solid s.prism s.is_solid)) e_in)
    in
    let lies = and_parts (is_on p e) (is_between_heights s.prism.z0 s.prism.z1 p) of_side in
    let cuts = and_parts (not (is_abscissa m (direction_of e) (reading p (direction_of e)))) _ off in
    let levels = and_parts (not (is_at_height m p)) (not (is_at_ground m p)) cuts.1 in
    let none = not_true (is_abscissa m (direction_of e) (reading p (direction_of e))) cuts.0 in
    let starts = side_starts e steps p p_is lies.0 in
    let b = normal_of e in
    let x0 = (side_over e).position in
    let d = frame_of (normal_of e) in
    let u = abscissa (normal_of e) p ((side_over e).position) starts in (
      subst (λ n. StartsAt (ray_from p n) ((side_over e).position)) (sym (normal_is e)) starts,
      subst (λ n. SeesFromFace m (ray_from p n) ((side_over e).position) s) (sym (normal_is e))
          (sees_from_side m valid b p x0 starts p_is (normal_is_some e steps)
          (passed_of d u p_is x0 (plan_edges m)) (row_of d u p_is x0 (plan_edges m))
          (is_row d u p_is x0 m) (side_has_no_abscissa e steps m p starts none) s s_in e e_in steps refl
          refl (ap (abscissa_at e.a) (sym (normal_is e))) lies.0 lies.1
          (not_true (is_at_height m p) levels.0) (not_true (is_at_ground m p) levels.1)),
    )

-- each walk that ends at a space has its way back
pub has_reversed_walks : HasReversedWalks
has_reversed_walks m valid alone s s_in kind.Top f f_is p p_is plain w walks to ends =
    let parts = and_parts (is_of_face s.prism kind.Top p) (is_off_level_cuts m p) plain in
    let lies = and_parts (is_in_plan s.prism.loops p) (int_eq p.z (s.prism.z1 *ℤ p.w)) parts.0 in
    let height = (Decides-int_eq p.z (s.prism.z1 *ℤ p.w)).0 lies.1 in
    let off =
    not_true (is_on_plan_edge m p) (and_parts (not (is_on_plan_edge m p)) _ parts.1).0
    in
    let way = arrow (pos 1) (pos 0) in
    let starts = starts_up s.prism p height in
    from_surface m valid alone s s_in kind.Top f f_is p p_is plain w walks to ends (top_of s.prism) f_is
    starts
    (sees_from_top m valid p s.prism.z1 p_is way level_is_way off parts.1
    (below_of way p (plan_edges m)) (are_below m way p) s s_in lies.0 starts refl)
has_reversed_walks m valid alone s s_in kind.Bottom f f_is p p_is plain w walks to ends =
    let parts = and_parts (is_of_face s.prism kind.Bottom p) (is_off_level_cuts m p) plain in
    let lies = and_parts (is_in_plan s.prism.loops p) (int_eq p.z (s.prism.z0 *ℤ p.w)) parts.0 in
    let height = (Decides-int_eq p.z (s.prism.z0 *ℤ p.w)).0 lies.1 in
    let off =
    not_true (is_on_plan_edge m p) (and_parts (not (is_on_plan_edge m p)) _ parts.1).0
    in
    let way = arrow (pos 1) (pos 0) in
    let starts = starts_down s.prism p height in
    from_surface m valid alone s s_in kind.Bottom f f_is p p_is plain w walks to ends
    (bottom_of s.prism) f_is starts
    (sees_from_bottom m valid p (neg_ℤ s.prism.z0) p_is way level_is_way off parts.1
    (below_of way p (plan_edges m)) (are_below m way p) s s_in lies.0 starts refl)
has_reversed_walks m valid alone s s_in (kind.Side j) f f_is p p_is plain w walks to ends =
    by (edge_numbered s.prism j) refl f_is
    (and_parts (is_of_face s.prism (kind.Side j) p) (is_off_cuts m s.prism (kind.Side j) p) plain)
  where
    by : (o : Option Edge) → edge_numbered s.prism j ≡ o → side_of o ≡ Some f
        → (is_of_side s.prism o p ≡ true) × (is_off_side_cuts m o p ≡ true)
        → HasWayBack m f w s.number to (far_point p f w)
    by None found side parts = absurd (none-some f side)
    by (Some e) found side parts =
        let turns =
        side_turns m valid s s_in e (stands_at (edges_of s.prism.loops) j e found) p p_is parts.0 parts.1
        in
        from_surface m valid alone s s_in (kind.Side j) f f_is p p_is plain w walks to ends (side_over e)
        side turns.0 turns.1
