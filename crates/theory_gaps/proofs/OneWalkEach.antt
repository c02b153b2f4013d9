-- Each plain point of a face has one list of passages over its whole ray, and one walk.
use Rattle.std.proofs.Common.{◌≡◌, refl, sym, ap, ◌∙◌, arith, subst, ◌↔◌, inl, inr, ℕ, ℤ, pos}
use Rattle.std.proofs.Common.{neg_ℤ, ◌-ℤ◌, Bool, true, false, not, cond, IsTrue, List, [], ◌∷◌, ◌++◌}
use Rattle.std.proofs.Common.{Option, Some, None}
use Rattle.std.proofs.Common.{◌*ℤ◌}
use Rattle.std.proofs.Common.{negsuc}
use Rattle.std.proofs.Common.{◌+ℤ◌}
use Rattle.std.specs.Ordering.{int_eq}
use Rattle.std.proofs.lemmas.Int.{ints}
use Rattle.std.proofs.lemmas.Bool.{and_parts, false≢true}
use Rattle.std.proofs.lemmas.Bool.Decides.{Decides-int_eq}
use Rattle.std.proofs.lemmas.Option.{none-some}
use Rattle.theory_lists.specs.Members.{Stands}
use Rattle.theory_lists.proofs.Members.{stands_at}
use Rattle.theory_cuttings.specs.Cuttings.{Break}
use Rattle.theory_cuttings.proofs.OnePassages.{one_list_of_passages}
use Rattle.sb_fraction.specs.Directions.{axis_z, direction_of}
use Rattle.sb_fraction.specs.Edges.{Edge, is_on}
use Rattle.sb_fraction.specs.Lines.{flat}
use Rattle.sb_fraction.specs.Spots.{Spot, IsSpot, Vector, opposite, reading}
use Rattle.theory_plans.specs.LoopEdges.{edges_of}
use Rattle.theory_plans.proofs.Edges.EdgesOfPlans.{is_proper_edge, plan_edges_are_proper}
use Rattle.theory_plans.proofs.Edges.StepsOfEdges.{IsStep, step_is}
use Rattle.sb_model.specs.declared.faces.face.FaceKind.{FaceKind}
use Rattle.sb_model.specs.declared.faces.face.FaceKind.TheVariants as kind
use Rattle.sb_model.specs.declared.labels.label.Label.{Label}
use Rattle.sb_model.specs.declared.labels.label.Label.TheVariants as label
use Rattle.sb_model.specs.declared.products.Element.{Element}
use Rattle.sb_model.specs.declared.products.Space.{Space}
use Rattle.sb_model.specs.declared.walk.End.{End}
use Rattle.sb_model.specs.declared.walk.End.TheVariants as end
use Rattle.sb_model.specs.declared.walk.Item.{Item}
use Rattle.sb_model.specs.declared.walk.Walk.{Walk}
use Rattle.sb_model.specs.Building.{Building, is_building}
use Rattle.sb_model.specs.Surfaces.Faces.{Surface, surface_of, side_of, side_over, edge_numbered, bottom_of, top_of}
use Rattle.sb_model.specs.Surfaces.Faces.{is_of_face, is_of_side}
use Rattle.sb_model.specs.Labels.{label_at}
use Rattle.sb_model.specs.Passages.{Ray, ray_from, at_depth, ArePassages}
use Rattle.sb_model.specs.Surfaces.PlainPoints.{is_plain, is_off_cuts, is_off_side_cuts, is_off_level_cuts}
use Rattle.sb_model.specs.Surfaces.PlainPoints.{is_on_plan_edge}
use Rattle.sb_model.specs.PlanEdges.{plan_edges, is_abscissa}
use Rattle.sb_model.specs.Solids.{Upright, is_between_heights}
use Rattle.sb_model.specs.Walks.{Course, course_of, element_numbered, IsWalkOf}
use Rattle.theory_models.proofs.EdgesOfProducts.{plan_of_solid}
use Rattle.theory_parity.specs.Below.{IsWay}
use Rattle.theory_sight.specs.Bands.{items_between}
use Rattle.theory_sight.specs.Reading.{FarEnd, square, slanted, never, Stretch, is_passed_over, ends_at}
use Rattle.theory_sight.specs.Reading.{behind, read_element, read_stretch, read}
use Rattle.theory_gaps.specs.Borders.{stretches_over, stretches_through}
use Rattle.theory_gaps.specs.Laws.{HaveOnePassages, HasOneWalk}
use Rattle.theory_gaps.proofs.Rays.PointsOnTheRay.{frame_of, abscissa}
use Rattle.theory_gaps.proofs.Rays.RaysOfFaces.{normal_of, normal_is, normal_is_some, side_starts}
use Rattle.theory_gaps.proofs.Rays.RaysOfFaces.{side_has_no_abscissa}
use Rattle.theory_gaps.proofs.RowsThatRise.{passed_of, row_of, is_row, below_of, are_below, all_ends}
use Rattle.theory_gaps.proofs.RowsThatRise.{heights_above, have_heights}
use Rattle.theory_gaps.proofs.Rays.WalkAlongTheNormal.{passages_along, walk_along}
use Rattle.theory_gaps.proofs.Rays.WalkAlongTheNormal.{column_along}
use Rattle.theory_gaps.proofs.Rays.WalkUpAndDown.{upright_normal, passages_through, walk_through}
use Rattle.theory_gaps.proofs.Rays.WalkUpAndDown.{column_through}
use Rattle.std.specs.List.{list_all}
use Rattle.theory_numbers.specs.Arrows.{arrow}
use Rattle.theory_numbers.specs.Arrows.{dot}
use Rattle.theory_numbers.proofs.Ring.{neg-mul}
use Rattle.theory_gaps.proofs.Rays.RaysWithBorders.{HasColumn}
use Rattle.theory_sight.specs.Crossings.{StartsAt}

-- ---- a course that is read is that of a walk

-- the walk with these parts
abbrev pub walk_of : List Item → ℤ → End → Walk
walk_of items depth found = record { items = items; depth = depth; end = found }

-- a walk with this course
abbrev IsWalked : Course → Type 0
IsWalked c = (w : Walk) × (course_of w ≡ c)

ends_walked : (x0 at : ℤ) (found : End) → IsWalked (ends_at x0 at found)
ends_walked x0 at found = (walk_of [] (at -ℤ x0) found, refl)

behind_walked : (items : List Item) (c : Course) → IsWalked c → IsWalked (behind items c)
behind_walked items c (w, same) =
    (walk_of (items ++ w.items) w.depth w.end, ap (behind items) same)

element_walked : (m : Building) (n : Vector) (x0 at : ℤ) (k : ℕ) (o : Option Element) (far : FarEnd)
    (goes_on : ℤ → Course) → ((y : ℤ) → IsWalked (goes_on y))
    → IsWalked (read_element m n x0 at k o far goes_on)
element_walked m n x0 at k None far goes_on later = ends_walked x0 at (end.Solid k)
element_walked m n x0 at k (Some e) slanted goes_on later = ends_walked x0 at (end.Solid e.number)
element_walked m n x0 at k (Some e) never goes_on later = ends_walked x0 at (end.Solid e.number)
element_walked m n x0 at k (Some e) (square y) goes_on later = by (is_passed_over m n e at y)
  where
    by : (t : Bool)
        → IsWalked
        (cond t (behind (items_between e n at y) (goes_on y)) (ends_at x0 at (end.Solid e.number)))
    by true = behind_walked (items_between e n at y) (goes_on y) (later y)
    by false = ends_walked x0 at (end.Solid e.number)

stretch_walked : (m : Building) (n : Vector) (x0 at : ℤ) (l : Label) (far : FarEnd)
    (goes_on : ℤ → Course) → ((y : ℤ) → IsWalked (goes_on y))
    → IsWalked (read_stretch m n x0 at l far goes_on)
stretch_walked m n x0 at (label.Space k) far goes_on later = ends_walked x0 at (end.Space k)
stretch_walked m n x0 at label.Void far goes_on later = ends_walked x0 at end.Outside
stretch_walked m n x0 at label.Earth far goes_on later = ends_walked x0 at end.Earth
stretch_walked m n x0 at (label.Element k layer) far goes_on later =
    element_walked m n x0 at k (element_numbered m k) far goes_on later

-- what is read is the course of a walk
pub read_is_walked : (m : Building) (n : Vector) (x0 at : ℤ) (ss : List Stretch)
    → IsWalked (read m n x0 at ss)
read_is_walked m n x0 at [] = ends_walked x0 at end.Outside
read_is_walked m n x0 at (s ∷ ss) =
    stretch_walked m n x0 at s.label s.far (λ y. read m n x0 y ss)
    (λ y. read_is_walked m n x0 y ss)

-- walks of one course are one
pub one_walk_a_course : (v w : Walk) → course_of v ≡ course_of w → v ≡ w
one_walk_a_course v w same =
    let items : v.items ≡ w.items = ap (λ c. c.items) same in
    let depth : v.depth ≡ w.depth = ap (λ c. c.depth.y) same in
    let found : v.end ≡ w.end = ap (λ c. c.end) same in
    let whole : walk_of v.items v.depth v.end ≡ walk_of w.items w.depth w.end = cc in
    whole

-- ---- a ray whose walk is what is read

-- passages, and the walk as it is read
pub record IsRead (m : Building) (r : Ray) : Type 0 where
  pub passages : (breaks : List (Break Label)) × ArePassages m r breaks
  pub x0 : ℤ
  pub stretches : List Stretch
  pub column : HasColumn m r x0 stretches
  pub walks : (w : Walk) → IsWalkOf m r w ↔ (course_of w ≡ read m r.normal x0 x0 stretches)

one_passages : (m : Building) (r : Ray) → IsRead m r
    → (breaks : List (Break Label))
    × (ArePassages m r breaks
    × ((others : List (Break Label)) → ArePassages m r others → others ≡ breaks))
one_passages m r is = by is.passages
  where
    by : (breaks : List (Break Label)) × ArePassages m r breaks
        → (breaks : List (Break Label))
        × (ArePassages m r breaks
        × ((others : List (Break Label)) → ArePassages m r others → others ≡ breaks))
    by (breaks, passages) = (
      breaks,
      (
        passages,
        λ others also.
            one_list_of_passages (λ depth. label_at m (at_depth r depth)) others breaks also passages,
      ),
    )

one_walk : (m : Building) (r : Ray) → IsRead m r
    → (w : Walk) × (IsWalkOf m r w × ((v : Walk) → IsWalkOf m r v → v ≡ w))
one_walk m r is = by (read_is_walked m r.normal is.x0 is.x0 is.stretches)
  where
    by : IsWalked (read m r.normal is.x0 is.x0 is.stretches)
        → (w : Walk) × (IsWalkOf m r w × ((v : Walk) → IsWalkOf m r v → v ≡ w))
    by (w, same) = (
      w,
      (
        (is.walks w).1 same,
        λ v walks. one_walk_a_course v w ((is.walks v).0 walks ∙ sym same),
      ),
    )

-- ---- faces

-- an edge of proper ones is proper
pub proper_there : (e : Edge) (es : List Edge) → list_all is_proper_edge es ≡ true → Stands e es
    → is_proper_edge e ≡ true
proper_there e [] all there = absurd there
proper_there e (f ∷ fs) all there =
    let parts = and_parts (is_proper_edge f) (list_all is_proper_edge fs) all in
    by parts.0 (proper_there e fs parts.1) there
  where
    by : is_proper_edge f ≡ true → (Stands e fs → is_proper_edge e ≡ true) → Stands e (f ∷ fs)
        → is_proper_edge e ≡ true
    by first rest (inl same) = ap is_proper_edge same ∙ first
    by first rest (inr later) = rest later

-- what is not true is false
pub not_true : (b : Bool) → not b ≡ true → b ≡ false
not_true true answer = absurd (false≢true answer)
not_true false answer = refl

-- the ray of a plain point of a side
side_is_read : (m : Building) → IsTrue (is_building m) → (e : Edge) → IsStep e → (p : Spot)
    → IsSpot p → is_on p e ≡ true
    → is_abscissa m (direction_of e) (reading p (direction_of e)) ≡ false
    → IsRead m (ray_from p (flat (normal_of e)))
side_is_read m valid e steps p p_is on none =
    let b = normal_of e in
    let x0 = (side_over e).position in
    let starts = side_starts e steps p p_is on in
    let d = frame_of (normal_of e) in
    let u = abscissa (normal_of e) p ((side_over e).position) starts in
    let over = side_has_no_abscissa e steps m p starts none in
    let some = normal_is_some e steps in
    record {
      passages =
          passages_along m valid b p x0 starts p_is some (passed_of d u p_is x0 (plan_edges m))
          (row_of d u p_is x0 (plan_edges m)) (is_row d u p_is x0 m) over;
      x0 = x0;
      stretches =
          stretches_over m (flat b) p (passed_of d u p_is x0 (plan_edges m))
          (row_of d u p_is x0 (plan_edges m));
      column =
          column_along m valid b p x0 starts p_is some (passed_of d u p_is x0 (plan_edges m))
          (row_of d u p_is x0 (plan_edges m)) (is_row d u p_is x0 m) over;
      walks =
          walk_along m valid b p x0 starts p_is some (passed_of d u p_is x0 (plan_edges m))
          (row_of d u p_is x0 (plan_edges m)) (is_row d u p_is x0 m) over;
    }

level_is_way : IsWay (arrow (pos 1) (pos 0))
unfolding dot
level_is_way = omega (arith, ints)

-- the ray up or down from a point on no plan edge
upright_is_read : (m : Building) → IsTrue (is_building m) → (up : Bool) (p : Spot) (x0 : ℤ)
    → StartsAt (ray_from p (upright_normal up)) x0 → IsSpot p → is_on_plan_edge m p ≡ false
    → IsRead m (ray_from p (upright_normal up))
upright_is_read m valid up p x0 starts p_is off =
    let way = arrow (pos 1) (pos 0) in
    let passed = below_of way p (plan_edges m) in
    let heights = heights_above x0 (all_ends m (upright_normal up)) in
    record {
      passages =
          passages_through m valid up p x0 starts p_is way level_is_way off passed (are_below m way p)
          heights (have_heights m (upright_normal up) passed x0);
      x0 = x0;
      stretches = stretches_through m (upright_normal up) passed x0 heights;
      column =
          column_through m valid up p x0 starts p_is way level_is_way off passed (are_below m way p)
          heights (have_heights m (upright_normal up) passed x0);
      walks =
          walk_through m valid up p x0 starts p_is way level_is_way off passed (are_below m way p) heights
          (have_heights m (upright_normal up) passed x0);
    }

-- the ray of Top begins at its height
pub starts_up : (s : Upright) (p : Spot) → p.z ≡ s.z1 *ℤ p.w → StartsAt (ray_from p axis_z) s.z1
starts_up s p same = of p.x p.y p.z (s.z1 *ℤ p.w) same
  where
    of : (x y z k : ℤ) → z ≡ k → ((x *ℤ pos 0) +ℤ (y *ℤ pos 0)) +ℤ (z *ℤ pos 1) ≡ k
    of x y z k same = omega (arith, ints)

-- and that of Bottom
pub starts_down : (s : Upright) (p : Spot) → p.z ≡ s.z0 *ℤ p.w
    → StartsAt (ray_from p (opposite axis_z)) (neg_ℤ s.z0)
starts_down s p same = of p.x p.y p.z s.z0 p.w same
  where
    of : (x y z k w : ℤ) → z ≡ k *ℤ w
        → ((x *ℤ pos 0) +ℤ (y *ℤ pos 0)) +ℤ (z *ℤ negsuc 0) ≡ neg_ℤ k *ℤ w
    of x y z k w same = let n = neg-mul k w in omega (arith, ints)

-- the surface of a face is the one it has
of_surface : (m : Building) (p : Spot) (g f : Surface) → Some g ≡ Some f
    → IsRead m (ray_from p g.normal) → IsRead m (ray_from p f.normal)
of_surface m p g f same is =
    let one : g ≡ f = cc in subst (λ (h : Surface). IsRead m (ray_from p h.normal)) one is

-- the ray of a plain point of any face
pub plain_is_read : (m : Building) → IsTrue (is_building m) → (s : Space) (k : FaceKind) (f : Surface)
    → surface_of s.prism k ≡ Some f → (p : Spot) → IsSpot p → is_plain m s.prism k p ≡ true
    → IsRead m (ray_from p f.normal)
plain_is_read m valid s kind.Top f f_is p p_is plain =
    let parts = and_parts (is_of_face s.prism kind.Top p) (is_off_level_cuts m p) plain in
    let height =
    (Decides-int_eq p.z (s.prism.z1 *ℤ p.w)).0
    (and_parts _ (int_eq p.z (s.prism.z1 *ℤ p.w)) parts.0).1
    in
    of_surface m p (top_of s.prism) f f_is
    (upright_is_read m valid true p s.prism.z1 (starts_up s.prism p height) p_is
    (not_true (is_on_plan_edge m p) (and_parts (not (is_on_plan_edge m p)) _ parts.1).0))
plain_is_read m valid s kind.Bottom f f_is p p_is plain =
    let parts = and_parts (is_of_face s.prism kind.Bottom p) (is_off_level_cuts m p) plain in
    let height =
    (Decides-int_eq p.z (s.prism.z0 *ℤ p.w)).0
    (and_parts _ (int_eq p.z (s.prism.z0 *ℤ p.w)) parts.0).1
    in
    of_surface m p (bottom_of s.prism) f f_is
    (upright_is_read m valid false p (neg_ℤ s.prism.z0) (starts_down s.prism p height) p_is
    (not_true (is_on_plan_edge m p) (and_parts (not (is_on_plan_edge m p)) _ parts.1).0))
plain_is_read m valid s (kind.Side j) f f_is p p_is plain =
    by (edge_numbered s.prism j) refl f_is
    (and_parts (is_of_face s.prism (kind.Side j) p) (is_off_cuts m s.prism (kind.Side j) p) plain)
  where
    by : (o : Option Edge) → edge_numbered s.prism j ≡ o → side_of o ≡ Some f
        → (is_of_side s.prism o p ≡ true) × (is_off_side_cuts m o p ≡ true)
        → IsRead m (ray_from p f.normal)
    by None found side parts = absurd (none-some f side)
    by (Some e) found side parts =
        let proper =
        proper_there e (edges_of s.prism.loops)
        (plan_edges_are_proper s.prism.loops (plan_of_solid s.prism s.is_solid))
        (stands_at (edges_of s.prism.loops) j e found)
        in
        let on = (and_parts (is_on p e) (is_between_heights s.prism.z0 s.prism.z1 p) parts.0).0 in
        let none =
        not_true (is_abscissa m (direction_of e) (reading p (direction_of e)))
        (and_parts (not (is_abscissa m (direction_of e) (reading p (direction_of e)))) _ parts.1).0
        in
        of_surface m p (side_over e) f side
        (subst (λ n. IsRead m (ray_from p n)) (sym (normal_is e))
        (side_is_read m valid e (step_is e proper) p p_is on none))

-- one list of passages
pub have_one_passages : HaveOnePassages
have_one_passages m valid s k f f_is p p_is plain =
    one_passages m (ray_from p f.normal) (plain_is_read m valid s k f f_is p p_is plain)

-- and one walk
pub has_one_walk : HasOneWalk
has_one_walk m valid s k f f_is p p_is plain =
    one_walk m (ray_from p f.normal) (plain_is_read m valid s k f f_is p p_is plain)
