-- Over a number that is no abscissa two plan edges have one value exactly where they lie on one line;
-- then both stand across the frame or neither does, and where they do their value is their position.
use Rattle.std.proofs.Common.{◌≡◌, ◌⊎◌, inl, inr, sym, ap, ap₂, ◌∙◌, arith, ℤ, pos, neg_ℤ, ◌+ℤ◌}
use Rattle.std.proofs.Common.{◌-ℤ◌, ◌*ℤ◌, Bool, true, false, cond}
use Rattle.std.proofs.lemmas.Int.{ints}
use Rattle.std.proofs.lemmas.Bool.{and_parts, and_from, or_parts, false≢true, false_from_ne_true}
use Rattle.std.proofs.lemmas.Bool.Decides.{Decides-int_eq}
use Rattle.std.specs.Ordering.{int_eq}
use Rattle.std.specs.List.{list_any}
use Rattle.theory_lists.specs.Members.{Stands}
use Rattle.theory_lists.specs.Parity.{differ}
use Rattle.theory_lists.proofs.Members.{any_stands}
use Rattle.theory_numbers.specs.Arrows.{Arrow, arrow, opposite, cross, dot}
use Rattle.theory_numbers.specs.Tests.{is_positive}
use Rattle.theory_numbers.specs.Rationals.{IsRational, IsSame, IsZeroForm, value_at, rational}
use Rattle.theory_numbers.proofs.Vectors.Arrows.{cross-opposite}
use Rattle.theory_numbers.proofs.Products.{zero_of_positive}
use Rattle.theory_numbers.proofs.Fractions.Rationals.{one_zero}
use Rattle.theory_numbers.proofs.Ring.{mul_comm, mul-zero, zero-mul}
use Rattle.theory_numbers.proofs.Shapes.{var, num, plus, minus, times, negated, equal, cross_is, dot_is}
use Rattle.theory_numbers.proofs.Shapes.{cross_by, dot_by, cross_eq}
use Rattle.theory_numbers.proofs.Signs.{same_equal, equal_or_not}
use Rattle.theory_plane.specs.Sides.{LineSide, IsLineSide, clearance, clearance_at, value_on}
use Rattle.theory_plane.specs.Points.{FacePoint, is_on_side, rise}
use Rattle.theory_plane.proofs.Clearance.{meeting_is}
use Rattle.theory_plane.proofs.LeadsUntilMeeting.{value-zero_form}
use Rattle.sb_fraction.specs.declared.point.Point.{Point}
use Rattle.sb_fraction.specs.Spots.{IsSpot, spot_at}
use Rattle.sb_fraction.specs.Edges.{Edge, span_of, turn_at, are_collinear}
use Rattle.sb_fraction.specs.Crossings.{abscissa_at, ends_over, cross_over}
use Rattle.sb_fraction.specs.Lines.{flat, in_frame, line_over, span_along, place, lies_after, reaches_past}
use Rattle.sb_model.specs.Building.{Building}
use Rattle.sb_model.specs.PlanEdges.{PlanEdge, plan_edges, is_abscissa}
use Rattle.sb_model.specs.Walks.{is_across}
use Rattle.theory_parity.specs.Below.{IsWay, value_of}
use Rattle.theory_parity.proofs.Rays.BelowFlips.{reaching_is_line}
use Rattle.theory_parity.proofs.OnLineOver.{on_line_over}
use Rattle.theory_lines.specs.Slabs.{AreOnOneLine}
use Rattle.theory_lines.proofs.LinesMeetAtCrossings.{crosses_or_one_line}
use Rattle.theory_gaps.proofs.Rays.PointsOnTheRay.{frame_of}

-- ---- lines and points

-- a point on one of two equal lines lies on the other
on_one_line : (l k : LineSide) (p : FacePoint)
    → (l.dx *ℤ rise k p) -ℤ (k.dx *ℤ rise l p)
    ≡ neg_ℤ (value_at (clearance l k) (arrow p.w p.u))
unfolding clearance dot
on_one_line l k p =
    equal
    (minus
    (times (var l.dx)
    (minus (minus (times (var k.dx) (var p.v)) (times (var k.dy) (var p.u)))
    (times (var k.off) (var p.w))))
    (times (var k.dx)
    (minus (minus (times (var l.dx) (var p.v)) (times (var l.dy) (var p.u)))
    (times (var l.off) (var p.w)))))
    (negated
    (plus
    (times (minus (times (var k.off) (var l.dx)) (times (var l.off) (var k.dx))) (var p.w))
    (times (minus (times (var k.dy) (var l.dx)) (times (var l.dy) (var k.dx))) (var p.u))))
    (omega arith)

on_is_no_rise : (l : LineSide) (p : FacePoint) → is_on_side l p ≡ true → rise l p ≡ pos 0
on_is_no_rise l p on =
    let same = (Decides-int_eq ((l.dx *ℤ p.v) -ℤ (l.dy *ℤ p.u)) (l.off *ℤ p.w)).0 on in
    omega (arith, ints)

no_rise_is_on : (l : LineSide) (p : FacePoint) → rise l p ≡ pos 0 → is_on_side l p ≡ true
no_rise_is_on l p none =
    (Decides-int_eq ((l.dx *ℤ p.v) -ℤ (l.dy *ℤ p.u)) (l.off *ℤ p.w)).1 (omega (arith, ints))

-- ---- edges

module _ (d : Arrow) (d_is : IsWay d) where
  point_is : (a : Point) → IsSpot (spot_at a)
  point_is a = omega (arith, ints)

  -- an end of an edge lies on the edge's line
  no_turn_a : (e : Edge) → turn_at e (spot_at e.a) ≡ pos 0
  unfolding cross
  no_turn_a e =
      equal
      (minus
      (times (minus (times (var e.a.x) (num 1)) (var e.a.x))
      (minus (times (var e.b.y) (num 1)) (var e.a.y)))
      (times (minus (times (var e.a.y) (num 1)) (var e.a.y))
      (minus (times (var e.b.x) (num 1)) (var e.a.x)))) (num 0) (omega arith)

  no_turn_b : (e : Edge) → turn_at e (spot_at e.b) ≡ pos 0
  unfolding cross
  no_turn_b e =
      equal
      (minus
      (times (minus (times (var e.a.x) (num 1)) (var e.b.x))
      (minus (times (var e.b.y) (num 1)) (var e.b.y)))
      (times (minus (times (var e.a.y) (num 1)) (var e.b.y))
      (minus (times (var e.b.x) (num 1)) (var e.b.x)))) (num 0) (omega arith)

  -- a point is on the line of an edge where its turn is none
  rise_if_turn : (e : Edge) (a : Point) → turn_at e (spot_at a) ≡ pos 0
      → rise (line_over d e) (in_frame d (spot_at a)) ≡ pos 0
  rise_if_turn e a none =
      on_is_no_rise (line_over d e) (in_frame d (spot_at a))
      (on_line_over d (spot_at a) e d_is (point_is a)
      ∙ (Decides-int_eq (turn_at e (spot_at a)) (pos 0)).1 none)

  turn_if_rise : (e : Edge) (a : Point)
      → rise (line_over d e) (in_frame d (spot_at a)) ≡ pos 0
      → int_eq (turn_at e (spot_at a)) (pos 0) ≡ true
  turn_if_rise e a none =
      sym (on_line_over d (spot_at a) e d_is (point_is a))
      ∙ no_rise_is_on (line_over d e) (in_frame d (spot_at a)) none

  -- where two lines are one a point of the one is a point of the other
  rise_on_line : (e f : Edge) → IsLineSide (line_over d f) → AreOnOneLine d e f → (a : Point)
      → rise (line_over d f) (in_frame d (spot_at a)) ≡ pos 0
      → rise (line_over d e) (in_frame d (spot_at a)) ≡ pos 0
  rise_on_line e f f_in one a none =
      let p = in_frame d (spot_at a) in
      let whole = on_one_line (line_over d e) (line_over d f) p in
      let zero = value-zero_form (clearance (line_over d e) (line_over d f)) (arrow p.w p.u) one in
      let first =
      ap (λ k. (line_over d e).dx *ℤ k) none ∙ mul-zero ((line_over d e).dx)
      in
      zero_of_positive ((line_over d f).dx) (rise (line_over d e) p) f_in (omega (arith, ints))

  -- edges on one line are collinear
  collinear_if_line : (e f : Edge) → IsLineSide (line_over d f) → AreOnOneLine d e f
      → are_collinear e f ≡ true
  collinear_if_line e f f_in one =
      and_from (int_eq (turn_at e (spot_at f.a)) (pos 0)) (int_eq (turn_at e (spot_at f.b)) (pos 0))
      (turn_if_rise e f.a
      (rise_on_line e f f_in one f.a (rise_if_turn f f.a (no_turn_a f))))
      (turn_if_rise e f.b
      (rise_on_line e f f_in one f.b (rise_if_turn f f.b (no_turn_b f))))

  -- the clearance of the two at the abscissa of a common point is none
  clearance_there : (e f : Edge) (a : Point) → turn_at e (spot_at a) ≡ pos 0
      → turn_at f (spot_at a) ≡ pos 0
      → clearance_at (line_over d e) (line_over d f) (arrow (pos 1) (dot d (arrow a.x a.y))) ≡ pos 0
  clearance_there e f a on_e on_f =
      let p = in_frame d (spot_at a) in
      let whole = on_one_line (line_over d e) (line_over d f) p in
      let first = ap (λ k. (line_over d e).dx *ℤ k) (rise_if_turn f a on_f)
      ∙ mul-zero ((line_over d e).dx) in
      let second = ap (λ k. (line_over d f).dx *ℤ k) (rise_if_turn e a on_e)
      ∙ mul-zero ((line_over d f).dx) in
      omega (arith, ints)

  -- the ends of an edge that reaches past a number have different abscissae
  ends_apart : (u : Arrow) (f : Edge) → reaches_past d u f ≡ true
      → IsSame (arrow (pos 1) (dot d (arrow f.a.x f.a.y))) (arrow (pos 1) (dot d (arrow f.b.x f.b.y)))
      → ⊥
  ends_apart u f past same =
      from (lies_after d u f.a) (lies_after d u f.b) alike past
    where
      abscissa_is : (a : Point) → dot d (arrow a.x a.y) ≡ abscissa_at a (flat d)
      abscissa_is a =
          equal (dot_by d (arrow a.x a.y) (var d.x) (var d.y) (var a.x) (var a.y))
          (plus (times (var a.x) (var d.x)) (times (var a.y) (var d.y))) (omega arith)

      one : abscissa_at f.a (flat d) ≡ abscissa_at f.b (flat d)
      one =
          let spread =
          cross_eq (arrow (pos 1) (dot d (arrow f.a.x f.a.y)))
          (arrow (pos 1) (dot d (arrow f.b.x f.b.y)))
          in
          sym (abscissa_is f.a) ∙ (omega (arith, ints, same)) ∙ abscissa_is f.b

      alike : lies_after d u f.a ≡ lies_after d u f.b
      alike = ap (λ k. is_positive (cross u (rational k (pos 1)))) one

      from : (s t : Bool) → s ≡ t → differ s t ≡ true → ⊥
      from true true same apart = false≢true apart
      from false false same apart = false≢true apart
      from true false same apart = false≢true (sym same)
      from false true same apart = false≢true same

  -- collinear edges, of which the second reaches past a number, lie on one line
  line_if_collinear : (u : Arrow) (e f : Edge) → reaches_past d u f ≡ true
      → are_collinear e f ≡ true → AreOnOneLine d e f
  line_if_collinear u e f past collinear =
      from (equal_or_not (clearance (line_over d e) (line_over d f)).x (pos 0))
      (equal_or_not (clearance (line_over d e) (line_over d f)).y (pos 0))
    where
      both : (turn_at e (spot_at f.a) ≡ pos 0) × (turn_at e (spot_at f.b) ≡ pos 0)
      both =
          let parts =
          and_parts (int_eq (turn_at e (spot_at f.a)) (pos 0))
          (int_eq (turn_at e (spot_at f.b)) (pos 0)) collinear
          in (
            (Decides-int_eq (turn_at e (spot_at f.a)) (pos 0)).0 parts.0,
            (Decides-int_eq (turn_at e (spot_at f.b)) (pos 0)).0 parts.1,
          )

      clash : (IsZeroForm (clearance (line_over d e) (line_over d f)) → ⊥) → ⊥
      clash form =
          ends_apart u f past
          (one_zero (clearance (line_over d e) (line_over d f))
          (arrow (pos 1) (dot d (arrow f.a.x f.a.y))) (arrow (pos 1) (dot d (arrow f.b.x f.b.y)))
          form (clearance_there e f f.a both.0 (no_turn_a f))
          (clearance_there e f f.b both.1 (no_turn_b f)))

      from : ((clearance (line_over d e) (line_over d f)).x ≡ pos 0)
          ⊎ ((clearance (line_over d e) (line_over d f)).x ≡ pos 0 → ⊥)
          → ((clearance (line_over d e) (line_over d f)).y ≡ pos 0)
          ⊎ ((clearance (line_over d e) (line_over d f)).y ≡ pos 0 → ⊥)
          → AreOnOneLine d e f
      from (inl x) (inl y) = (x, y)
      from (inr x) y = absurd (clash (λ zero. x zero.0))
      from (inl x) (inr y) = absurd (clash (λ zero. y zero.1))

-- ---- over a number that is no abscissa

module _ (m : Building) (d u : Arrow) (d_is : IsWay d) (u_in : IsRational u)
    (none : is_abscissa m (flat d) u ≡ false) where
  parts : (list_any (λ e. ends_over (flat d) u e.edge) (plan_edges m) ≡ false)
      × (list_any (λ e. list_any (λ f. cross_over (flat d) u e.edge f.edge) (plan_edges m))
      (plan_edges m) ≡ false)
  parts =
      or_parts (list_any (λ e. ends_over (flat d) u e.edge) (plan_edges m))
      (list_any (λ e. list_any (λ f. cross_over (flat d) u e.edge f.edge) (plan_edges m))
      (plan_edges m)) none

  -- no plan edge ends there
  pub no_end_over : (e : PlanEdge) → Stands e (plan_edges m) → ends_over (flat d) u e.edge ≡ false
  no_end_over e e_in =
      false_from_ne_true (ends_over (flat d) u e.edge)
      (λ ends.
      false≢true
      (sym parts.0
      ∙ any_stands (λ f. ends_over (flat d) u f.edge) e (plan_edges m) e_in ends))

  -- and no two cross there
  no_cross_over : (e f : PlanEdge) → Stands e (plan_edges m) → Stands f (plan_edges m)
      → cross_over (flat d) u e.edge f.edge ≡ false
  no_cross_over e f e_in f_in =
      false_from_ne_true (cross_over (flat d) u e.edge f.edge)
      (λ crosses.
      false≢true
      (sym parts.1
      ∙ any_stands
      (λ g. list_any (λ h. cross_over (flat d) u g.edge h.edge) (plan_edges m)) e (plan_edges m)
      e_in
      (any_stands (λ h. cross_over (flat d) u e.edge h.edge) f (plan_edges m) f_in crosses)))

  module _ (e f : PlanEdge) (e_in : Stands e (plan_edges m)) (f_in : Stands f (plan_edges m))
      (past_e : reaches_past d u e.edge ≡ true) (past_f : reaches_past d u f.edge ≡ true) where
    -- edges with one value lie on one line
    pub line_if_same : IsSame (value_of d u e.edge) (value_of d u f.edge)
        → AreOnOneLine d e.edge f.edge
    line_if_same same =
        from
        (crosses_or_one_line d u d_is u_in e.edge f.edge past_e past_f (no_end_over e e_in)
        (no_end_over f f_in)
        ((meeting_is (line_over d e.edge) (line_over d f.edge) u u_in).0 same))
      where
        from : AreOnOneLine d e.edge f.edge ⊎ (cross_over (flat d) u e.edge f.edge ≡ true)
            → AreOnOneLine d e.edge f.edge
        from (inl one) = one
        from (inr crosses) = absurd (false≢true (sym (no_cross_over e f e_in f_in) ∙ crosses))

    -- so they are collinear
    pub collinear_if_same : IsSame (value_of d u e.edge) (value_of d u f.edge)
        → are_collinear e.edge f.edge ≡ true
    collinear_if_same same =
        collinear_if_line d d_is e.edge f.edge (reaching_is_line d u f.edge past_f)
        (line_if_same same)

    -- and collinear ones have one value
    pub same_if_collinear : are_collinear e.edge f.edge ≡ true
        → IsSame (value_of d u e.edge) (value_of d u f.edge)
    same_if_collinear collinear =
        (meeting_is (line_over d e.edge) (line_over d f.edge) u u_in).1
        (value-zero_form (clearance (line_over d e.edge) (line_over d f.edge)) u
        (line_if_collinear d d_is u e.edge f.edge past_f collinear))

-- ---- edges across

module _ (b : Arrow) where
  -- an edge stands across b where its line is level in the frame
  across_is_level : (e : Edge) → is_across (flat b) e ≡ int_eq ((line_over (frame_of b) e).dy) (pos 0)
  unfolding span_along
  across_is_level e = by (is_positive (dot (frame_of b) (span_of e)))
    where
      along : cross (frame_of b) (span_of e)
          ≡ ((span_of e).x *ℤ b.x) +ℤ ((span_of e).y *ℤ b.y)
      along =
          equal
          (cross_by (frame_of b) (span_of e) (var b.y) (negated (var b.x))
          (var (span_of e).x) (var (span_of e).y))
          (plus (times (var (span_of e).x) (var b.x)) (times (var (span_of e).y) (var b.y)))
          (omega arith)

      by : (t : Bool)
          → is_across (flat b) e
          ≡ int_eq (cross (frame_of b) (cond t (span_of e) (opposite (span_of e)))) (pos 0)
      by true = ap (λ k. int_eq k (pos 0)) (sym along)
      by false =
          same_equal (((span_of e).x *ℤ b.x) +ℤ ((span_of e).y *ℤ b.y)) (pos 0)
          (cross (frame_of b) (opposite (span_of e))) (pos 0)
          (λ zero. let n = cross-opposite (frame_of b) (span_of e) in omega (arith, ints, along))
          (λ zero. let n = cross-opposite (frame_of b) (span_of e) in omega (arith, ints, along))

  -- two edges on one line both stand across or neither does
  pub across_alike : (e f : Edge) → IsLineSide (line_over (frame_of b) e)
      → IsLineSide (line_over (frame_of b) f) → AreOnOneLine (frame_of b) e f
      → is_across (flat b) e ≡ is_across (flat b) f
  unfolding clearance
  across_alike e f e_in f_in one =
      let l = line_over (frame_of b) e in
      let k = line_over (frame_of b) f in
      across_is_level e
      ∙ same_equal (l.dy) (pos 0) (k.dy) (pos 0) (λ zero. to l k e_in one.1 zero)
      (λ zero. back l k f_in one.1 zero)
      ∙ sym (across_is_level f)
    where
      to : (l k : LineSide) → IsLineSide l → (k.dy *ℤ l.dx) -ℤ (l.dy *ℤ k.dx) ≡ pos 0 → l.dy ≡ pos 0
          → k.dy ≡ pos 0
      to l k l_in same zero =
          let none = ap (λ n. n *ℤ k.dx) zero ∙ zero-mul k.dx in
          let turn = mul_comm l.dx k.dy in
          zero_of_positive l.dx k.dy l_in (omega (arith, ints))

      back : (l k : LineSide) → IsLineSide k → (k.dy *ℤ l.dx) -ℤ (l.dy *ℤ k.dx) ≡ pos 0
          → k.dy ≡ pos 0 → l.dy ≡ pos 0
      back l k k_in same zero =
          let none = ap (λ n. n *ℤ l.dx) zero ∙ zero-mul l.dx in
          let turn = mul_comm k.dx l.dy in
          zero_of_positive k.dx l.dy k_in (omega (arith, ints))

  -- a vector's area with a point, along the frame
  frame_area : (c s a : Arrow)
      → dot c c *ℤ cross s a ≡ (dot c s *ℤ cross c a) -ℤ (cross c s *ℤ dot c a)
  frame_area c s a =
      equal (times (dot_is c c) (cross_is s a))
      (minus (times (dot_is c s) (cross_is c a)) (times (cross_is c s) (dot_is c a))) (omega arith)

  -- the value of an edge that stands across is the position of its ends
  pub value_is_position : (u : Arrow) (e : Edge) → is_across (flat b) e ≡ true
      → IsSame (value_of (frame_of b) u e) (rational (abscissa_at e.a (flat b)) (pos 1))
  unfolding value_on
  value_is_position u e across =
      let c = frame_of b in
      let s = span_along (frame_of b) e in
      let level =
      (Decides-int_eq ((line_over (frame_of b) e).dy) (pos 0)).0
      (sym (across_is_level e) ∙ across)
      in
      cross_eq (value_of (frame_of b) u e) (rational (abscissa_at e.a (flat b)) (pos 1))
      ∙ whole (dot c s) (cross c s) (dot c c *ℤ cross s (place e.a)) (cross c (place e.a))
      (abscissa_at e.a (flat b)) u.x u.y (dot c (place e.a)) level position
      (frame_area c s (place e.a))
    where
      position : cross (frame_of b) (place e.a) ≡ abscissa_at e.a (flat b)
      position =
          equal
          (cross_by (frame_of b) (place e.a) (var b.y) (negated (var b.x)) (var e.a.x) (var e.a.y))
          (plus (times (var e.a.x) (var b.x)) (times (var e.a.y) (var b.y))) (omega arith)

      whole : (dx dy off y z ux uy t : ℤ) → dy ≡ pos 0 → y ≡ z → off ≡ (dx *ℤ y) -ℤ (dy *ℤ t)
          → ((dx *ℤ ux) *ℤ z) -ℤ (((dy *ℤ uy) +ℤ (off *ℤ ux)) *ℤ pos 1) ≡ pos 0
      whole dx dy off y z ux uy t level at same =
          ap₂ (λ k j. ((dx *ℤ ux) *ℤ z) -ℤ (((k *ℤ uy) +ℤ (j *ℤ ux)) *ℤ pos 1)) level
          (same ∙ ap₂ (λ k j. (dx *ℤ k) -ℤ (j *ℤ t)) at level)
          ∙ equal
          (minus (times (times (var dx) (var ux)) (var z))
          (times
          (plus (times (num 0) (var uy))
          (times (minus (times (var dx) (var z)) (times (num 0) (var t))) (var ux))) (num 1)))
          (num 0) (omega arith)
