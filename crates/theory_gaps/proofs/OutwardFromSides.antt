-- Over a slab the walk along the normal of a side is what is read outward from its line.
use Rattle.std.proofs.Common.{◌≡◌, refl, sym, ap, ap₂, ◌∙◌, arith, subst, subst₂, ◌↔◌, ℕ}
use Rattle.std.proofs.Common.{ℤ, pos, neg_ℤ, ◌+ℤ◌, ◌*ℤ◌, Bool, true, false, not}
use Rattle.std.proofs.Common.{cond, IsTrue, List, [], reverse}
use Rattle.std.proofs.Common.{int_le}
use Rattle.std.specs.Ordering.{int_eq}
use Rattle.std.proofs.lemmas.Int.{ints}
use Rattle.std.proofs.lemmas.Bool.{and_parts, false≢true, or_parts}
use Rattle.std.proofs.lemmas.Bool.Decides.{Decides-int_eq}
use Rattle.theory_lists.specs.Members.{Stands}
use Rattle.theory_lists.specs.Parity.{differ}
use Rattle.theory_lists.proofs.Members.{stands_at}
use Rattle.theory_lists.proofs.Parity.{differ-opposite}
use Rattle.theory_numbers.specs.Arrows.{Arrow, arrow, opposite, mirror, cross, dot}
use Rattle.theory_numbers.specs.Rationals.{IsBelow, IsAtMost, IsSame, rational}
use Rattle.theory_numbers.proofs.Fractions.Rationals.{at_most_from_below}
use Rattle.theory_numbers.proofs.Shapes.{var, num, plus, times, negated, equal, dot_by}
use Rattle.sb_fraction.specs.Directions.{step, runs_along, direction_of, normal_over}
use Rattle.sb_fraction.specs.Edges.{Edge, span_of, is_on}
use Rattle.sb_fraction.specs.Edges.{turn_at}
use Rattle.sb_fraction.specs.Edges.{reach_at}
use Rattle.sb_fraction.specs.Edges.{seen_from}
use Rattle.sb_fraction.specs.Crossings.{abscissa_at, ends_over}
use Rattle.sb_fraction.specs.Lines.{flat, reaches_past}
use Rattle.sb_fraction.specs.Spots.{Spot, IsSpot, reading}
use Rattle.sb_fraction.specs.Spots.{Vector}
use Rattle.sb_fraction.specs.Spots.{vector}
use Rattle.theory_plans.specs.LoopEdges.{edges_of}
use Rattle.theory_plans.proofs.Edges.StepsOfEdges.{IsStep, step_is, direction_along, direction_against}
use Rattle.theory_plans.proofs.Edges.StepsOfEdges.{direction_is_level}
use Rattle.sb_model.specs.declared.faces.face.FaceKind.TheVariants as kind
use Rattle.sb_model.specs.declared.walk.Walk.{Walk}
use Rattle.sb_model.specs.Building.{Building, is_building}
use Rattle.sb_model.specs.Surfaces.Faces.{side_over}
use Rattle.sb_model.specs.Surfaces.Faces.{is_of_face}
use Rattle.sb_model.specs.Surfaces.Faces.{is_of_side}
use Rattle.sb_model.specs.Passages.{ray_from}
use Rattle.sb_model.specs.PlanEdges.{PlanEdge, plan_edges, is_abscissa}
use Rattle.sb_model.specs.PlanEdges.{products_of}
use Rattle.sb_model.specs.Walks.{course_of, is_across, IsWalkOf, IsWalk}
use Rattle.theory_parity.specs.Below.{IsWay, value_of, abscissa_in}
use Rattle.theory_parity.specs.Below.{down_from}
use Rattle.theory_lines.specs.Slabs.{IsSlab, IsSlabOrder}
use Rattle.theory_sight.specs.Reading.{read}
use Rattle.theory_gaps.specs.Gaps.{edges_at}
use Rattle.theory_gaps.specs.Borders.{stretches_beyond, outward_order, stretches_outward}
use Rattle.theory_gaps.specs.Laws.{way_along, HasWalkAlongNormal}
use Rattle.theory_gaps.proofs.EdgesAtANumber.{value_is_position}
use Rattle.theory_gaps.proofs.EdgesAtANumber.{no_end_over}
use Rattle.theory_gaps.proofs.Rays.LabelsAlongTheNormal.{plan_edge}
use Rattle.theory_gaps.proofs.Rays.LabelsAlongTheNormal.{edge_stands}
use Rattle.theory_gaps.proofs.Rays.PointsOnTheRay.{frame_of, abscissa, unit_is}
use Rattle.theory_gaps.proofs.Rays.RaysOfFaces.{normal_of, normal_is, normal_is_some, side_starts}
use Rattle.theory_gaps.proofs.Rays.RaysOfFaces.{side_has_no_abscissa}
use Rattle.theory_gaps.proofs.RowsOfSlabs.{IsRowOver, order_is_row, row_turned}
use Rattle.theory_gaps.proofs.RowsOfSlabs.{edges_at-reverse}
use Rattle.theory_gaps.proofs.RowsOfSlabs.{spanning_stands}
use Rattle.theory_gaps.proofs.RowsOfSlabs.{stands-reverse}
use Rattle.theory_gaps.proofs.OneWalkEach.{not_true}
use Rattle.theory_gaps.proofs.OneWalkEach.{proper_there}
use Rattle.theory_lines.proofs.EdgesOverASlab.{reaching_spans}
use Rattle.theory_plans.proofs.Edges.EdgesOfPlans.{plan_edges_are_proper}
use Rattle.theory_models.proofs.EdgesOfProducts.{plan_of_solid}
use Rattle.theory_models.proofs.NumbersApart.{of_space}
use Rattle.theory_models.proofs.NumbersApart.{space_stands}
use Rattle.sb_model.specs.Surfaces.PlainPoints.{is_off_cuts}
use Rattle.sb_model.specs.Surfaces.PlainPoints.{is_off_side_cuts}
use Rattle.sb_model.specs.Solids.{is_between_heights}
use Rattle.theory_plans.specs.Rays.{is_left_of}
use Rattle.theory_parity.proofs.Rays.InsideByBelow.{beyond_is_left}
use Rattle.theory_parity.proofs.Rays.InsideByBelow.{beyond_by_turn}
use Rattle.theory_numbers.proofs.Vectors.Lengths.{parted}
use Rattle.theory_numbers.proofs.Signs.{at_most_from}
use Rattle.theory_gaps.proofs.PartedAtALine.{walk_beyond}
use Rattle.theory_sight.specs.Crossings.{StartsAt}

-- ---- the order of a slab, outward

-- an edge on which a point lies reaches past the point's abscissa where it ends at no point over it
pub reaches_if_on : (d : Arrow) (p : Spot) (e : Edge) → ends_over (flat d) (abscissa_in d p) e ≡ false
    → is_on p e ≡ true → reaches_past d (abscissa_in d p) e ≡ true
reaches_if_on d p e no_end on =
    let u = abscissa_in d p in
    let ends =
    or_parts (int_eq (cross u (rational (abscissa_at e.a (flat d)) (pos 1))) (pos 0))
    (int_eq (cross u (rational (abscissa_at e.b (flat d)) (pos 1))) (pos 0)) no_end
    in
    let parts = and_parts (int_eq (turn_at e p) (pos 0)) (int_le (reach_at e p) (pos 0)) on in
    ap₂ differ (beyond_is_left d p e.a) (beyond_is_left d p e.b)
    ∙ differ-opposite (is_left_of (down_from d) p e.a) (is_left_of (down_from d) p e.b)
    (parted (down_from d) (seen_from p e.a) (seen_from p e.b)
    ((Decides-int_eq (turn_at e p) (pos 0)).0 parts.0) (at_most_from (reach_at e p) (pos 0) parts.1)
    (λ none.
    false≢true
    (sym ends.0
    ∙ (Decides-int_eq (cross u (rational (abscissa_at e.a (flat d)) (pos 1))) (pos 0)).1
    (beyond_by_turn d p e.a ∙ none)))
    (λ none.
    false≢true
    (sym ends.1
    ∙ (Decides-int_eq (cross u (rational (abscissa_at e.b (flat d)) (pos 1))) (pos 0)).1
    (beyond_by_turn d p e.b ∙ none))))

module _ (m : Building) (e : PlanEdge) (e_in : Stands e (plan_edges m)) (steps : IsStep e.edge)
    (low high : Arrow) (slab : IsSlab m (way_along e.edge) low high) (order : List ℕ)
    (is : IsSlabOrder (plan_edges m) (way_along e.edge) low high order) (p : Spot) (p_is : IsSpot p)
    (on : is_on p e.edge ≡ true)
    (none :
    is_abscissa m (direction_of e.edge) (reading p (direction_of e.edge)) ≡ false)
    (after : IsBelow low (reading p (direction_of e.edge)))
    (before : IsBelow (reading p (direction_of e.edge)) high) where
  abbrev d : Arrow
  d = way_along e.edge

  abbrev b : Arrow
  b = normal_of e.edge

  abbrev x0 : ℤ
  x0 = (side_over e.edge).position

  starts : StartsAt (ray_from p (flat (normal_of e.edge))) ((side_over e.edge).position)
  starts = side_starts e.edge steps p p_is on

  abbrev u : Arrow
  u = abscissa (normal_of e.edge) p ((side_over e.edge).position) starts

  flat_is : flat (way_along e.edge) ≡ direction_of e.edge
  flat_is =
      ap (vector (direction_of e.edge).x (direction_of e.edge).y)
      (sym (direction_is_level e.edge))

  -- the abscissa of the point along the direction
  reads : abscissa_in (way_along e.edge) p ≡ reading p (direction_of e.edge)
  reads =
      ap (λ k. rational k p.w)
      (equal (dot_by d (arrow p.x p.y) (var d.x) (var d.y) (var p.x) (var p.y))
      (plus (plus (times (var p.x) (var d.x)) (times (var p.y) (var d.y)))
      (times (var p.z) (num 0))) (omega arith))
      ∙ ap (reading p) flat_is

  none_along : is_abscissa m (flat (way_along e.edge)) (abscissa_in (way_along e.edge) p) ≡ false
  none_along = ap₂ (is_abscissa m) flat_is reads ∙ none

  frame_is_way : IsWay (frame_of (normal_of e.edge))
  frame_is_way =
      omega (
        arith,
        ints,
        normal_is_some e.edge steps,
        unit_is (normal_of e.edge) p ((side_over e.edge).position) starts,
      )

  turned_way : (x y : ℤ) → IsWay (arrow (neg_ℤ x) (neg_ℤ y)) → IsWay (arrow x y)
  turned_way x y way = omega (arith, ints, way, square)
    where
      square : dot (arrow (neg_ℤ x) (neg_ℤ y)) (arrow (neg_ℤ x) (neg_ℤ y))
          ≡ dot (arrow x y) (arrow x y)
      square =
          equal
          (dot_by (arrow (neg_ℤ x) (neg_ℤ y)) (arrow (neg_ℤ x) (neg_ℤ y)) (negated (var x))
          (negated (var y)) (negated (var x)) (negated (var y)))
          (dot_by (arrow x y) (arrow x y) (var x) (var y) (var x) (var y)) (omega arith)

  -- the frame of the ray is the direction where the edge runs against it, and else the opposite
  along_is : runs_along e.edge ≡ true
      → way_along e.edge ≡ arrow (step e.edge).x (step e.edge).y
  along_is along = ap (λ (v : Vector). arrow v.x v.y) (direction_along e.edge along)

  against_is : runs_along e.edge ≡ false → way_along e.edge ≡ frame_of (normal_of e.edge)
  against_is against = ap (λ (v : Vector). arrow v.x v.y) (direction_against e.edge against)

  way_is : IsWay (way_along e.edge)
  way_is = by (runs_along e.edge) refl
    where
      by : (t : Bool) → runs_along e.edge ≡ t → IsWay (way_along e.edge)
      by true along =
          subst IsWay (sym (along_is along))
          (turned_way (step e.edge).x (step e.edge).y frame_is_way)
      by false against = subst IsWay (sym (against_is against)) frame_is_way

  after_in : IsAtMost low (abscissa_in (way_along e.edge) p)
  after_in =
      at_most_from_below low (abscissa_in (way_along e.edge) p)
      (subst (IsBelow low) (sym reads) after)

  before_in : IsBelow (abscissa_in (way_along e.edge) p) high
  before_in = subst (λ t. IsBelow t high) (sym reads) before

  row_along : IsRowOver m (way_along e.edge) (abscissa_in (way_along e.edge) p)
      (edges_at (plan_edges m) order)
  row_along =
      order_is_row m (way_along e.edge) low high slab order is (abscissa_in (way_along e.edge) p) p_is
      after_in before_in

  mirror_is : (x y : ℤ)
      → mirror (abscissa_in (arrow x y) p) ≡ abscissa_in (arrow (neg_ℤ x) (neg_ℤ y)) p
  mirror_is x y =
      ap (arrow p.w)
      (equal
      (negated (dot_by (arrow x y) (arrow p.x p.y) (var x) (var y) (var p.x) (var p.y)))
      (dot_by (arrow (neg_ℤ x) (neg_ℤ y)) (arrow p.x p.y) (negated (var x)) (negated (var y))
      (var p.x) (var p.y)) (omega arith))

  -- the order outward is a row in the frame of the ray
  row_outward : IsRowOver m (frame_of (normal_of e.edge)) u
      (edges_at (plan_edges m) (outward_order e.edge order))
  row_outward = by (runs_along e.edge) refl
    where
      by : (t : Bool) → runs_along e.edge ≡ t
          → IsRowOver m (frame_of (normal_of e.edge)) u
          (edges_at (plan_edges m) (cond t (reverse order) order))
      by false against =
          subst
          (λ c. IsRowOver m c (abscissa_in c p) (edges_at (plan_edges m) order))
          (against_is against) row_along
      by true along =
          subst₂ (λ v es. IsRowOver m (frame_of (normal_of e.edge)) v es)
          (mirror_is (step e.edge).x (step e.edge).y)
          (sym (edges_at-reverse (plan_edges m) order))
          (subst
          (λ c.
          IsRowOver m (opposite c) (mirror (abscissa_in c p))
          (reverse (edges_at (plan_edges m) order)))
          (along_is along)
          (row_turned m (way_along e.edge) (abscissa_in (way_along e.edge) p) way_is p_is none_along
          (edges_at (plan_edges m) order) row_along))

  -- and the edge of the side stands in it
  edge_outward : Stands e (edges_at (plan_edges m) (outward_order e.edge order))
  edge_outward = by (runs_along e.edge)
    where
      reaches : reaches_past (way_along e.edge) (abscissa_in (way_along e.edge) p) e.edge ≡ true
      reaches =
          reaches_if_on (way_along e.edge) p e.edge
          (no_end_over m (way_along e.edge) (abscissa_in (way_along e.edge) p) way_is p_is none_along e
          e_in) on

      there : Stands e (edges_at (plan_edges m) order)
      there =
          spanning_stands (plan_edges m) (way_along e.edge) low high order is e e_in
          (reaching_spans m (way_along e.edge) low high slab (abscissa_in (way_along e.edge) p) p_is
          after_in before_in e e_in reaches)

      by : (t : Bool) → Stands e (edges_at (plan_edges m) (cond t (reverse order) order))
      by false = there
      by true =
          subst (Stands e) (sym (edges_at-reverse (plan_edges m) order))
          (stands-reverse e (edges_at (plan_edges m) order) there)

  none_across : is_abscissa m (flat (frame_of (normal_of e.edge))) u ≡ false
  none_across = side_has_no_abscissa e.edge steps m p starts none

  -- the edge stands across its normal
  across : is_across (flat (normal_of e.edge)) e.edge ≡ true
  across =
      (Decides-int_eq
      (((span_of e.edge).x *ℤ (step e.edge).y) +ℤ ((span_of e.edge).y *ℤ neg_ℤ (step e.edge).x))
      (pos 0)).1
      (ap₂ (λ x y. (x *ℤ (step e.edge).y) +ℤ (y *ℤ neg_ℤ (step e.edge).x)) steps.x steps.y
      ∙ level (pos steps.times) (step e.edge).x (step e.edge).y)
    where
      level : (k x y : ℤ) → ((k *ℤ x) *ℤ y) +ℤ ((k *ℤ y) *ℤ neg_ℤ x) ≡ pos 0
      level k x y =
          equal
          (plus (times (times (var k) (var x)) (var y))
          (times (times (var k) (var y)) (negated (var x)))) (num 0) (omega arith)

  -- so its value is the position of the side
  own : IsSame (value_of (frame_of (normal_of e.edge)) u e.edge)
      (rational ((side_over e.edge).position) (pos 1))
  own =
      subst
      (λ (v : Vector).
      IsSame (value_of (frame_of (normal_of e.edge)) u e.edge)
      (rational ((e.edge.a.x *ℤ v.x) +ℤ (e.edge.a.y *ℤ v.y)) (pos 1)))
      (sym (normal_is e.edge)) (value_is_position (normal_of e.edge) u e.edge across)

  -- the walk of a point of the side
  pub walk_of_side : IsTrue (is_building m) → (w : Walk)
      → IsWalk m (side_over e.edge) p w
      ↔ (course_of w
      ≡ read m (normal_over e.edge) ((side_over e.edge).position) ((side_over e.edge).position)
      (stretches_outward m e.edge p order))
  walk_of_side valid w =
      subst
      (λ n.
      IsWalkOf m (ray_from p n) w
      ↔ (course_of w
      ≡ read m n ((side_over e.edge).position) ((side_over e.edge).position)
      (stretches_beyond m n p e.edge [] (edges_at (plan_edges m) (outward_order e.edge order)))))
      (sym (normal_is e.edge))
      (walk_beyond m (normal_of e.edge) p ((side_over e.edge).position) starts p_is frame_is_way
      none_across e e_in
      (reaches_if_on (frame_of (normal_of e.edge)) p e.edge
      (no_end_over m (frame_of (normal_of e.edge)) u frame_is_way p_is none_across e e_in) on) own valid
      (normal_is_some e.edge steps) (edges_at (plan_edges m) (outward_order e.edge order)) row_outward
      edge_outward w)

-- the law
pub has_walk_along_normal : HasWalkAlongNormal
has_walk_along_normal m valid s s_in k e found low high slab order is p p_is plain after before w =
    let parts =
    and_parts (is_of_face s.prism (kind.Side k) p) (is_off_cuts m s.prism (kind.Side k) p) plain
    in
    let of_side = subst (λ o. is_of_side s.prism o p ≡ true) found parts.0 in
    let off = subst (λ o. is_off_side_cuts m o p ≡ true) found parts.1 in
    let on = (and_parts (is_on p e) (is_between_heights s.prism.z0 s.prism.z1 p) of_side).0 in
    let none =
    not_true (is_abscissa m (direction_of e) (reading p (direction_of e)))
    (and_parts (not (is_abscissa m (direction_of e) (reading p (direction_of e)))) _ off).0
    in
    let there = stands_at (edges_of s.prism.loops) k e found in
    let proper =
    proper_there e (edges_of s.prism.loops)
    (plan_edges_are_proper s.prism.loops (plan_of_solid s.prism s.is_solid)) there
    in
    walk_of_side m (plan_edge e s.number)
    (edge_stands e (of_space s) (products_of m) (space_stands m s s_in) there) (step_is e proper) low
    high slab order is p p_is on none after before valid w
