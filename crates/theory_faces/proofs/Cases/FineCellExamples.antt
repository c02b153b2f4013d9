-- Which pieces are fine cells, and which are not: on the model of one box, 4,000 by 3,000 and 2,500
-- high, on the ground.
use Rattle.std.proofs.Common.{◌-ℤ◌, ◌*ℤ◌, ◌&&◌, subst, int_lt, List, [], ◌∷◌, inl, inr, sym}
use Rattle.std.proofs.lemmas.Bool.{and_parts, and_from}
use Rattle.theory_lists.specs.Members.{Stands}
use Rattle.theory_numbers.specs.Rationals.{is_below}
use Rattle.theory_numbers.proofs.Signs.{less_from, test_less}
use Rattle.theory_plane.specs.Points.{FacePoint, face_point, is_on_side, is_above_side, is_under_side}
use Rattle.theory_plane.specs.Regions.{is_inside, is_spanned}
use Rattle.theory_plans.specs.Rectangles.{rectangle}
use Rattle.theory_plans.proofs.InsideRectangle.{inside_rectangle}
use Rattle.sb_model.specs.PlanEdges.{PlanEdge, plan_edges}
use Rattle.sb_model.specs.Surfaces.FineCells.{way_x, IsOfSpanning, IsLevelPiece}
use Rattle.std.proofs.Common.{◌≡◌, refl, ◌∙◌, ap, arith, ℕ, ℤ, pos, ◌<ℤ◌, true}
use Rattle.std.proofs.Common.{false}
use Rattle.std.proofs.lemmas.Int.{ints}
use Rattle.std.proofs.lemmas.Bool.{false≢true}
use Rattle.theory_numbers.specs.Arrows.{Arrow, cross, dot}
use Rattle.theory_numbers.specs.Divisors.{greatest_divisor, divisor_within}
use Rattle.theory_numbers.specs.Rationals.{rational}
use Rattle.theory_numbers.proofs.Signs.{test_not_equal}
use Rattle.theory_plane.specs.Sides.{LineSide, line, level, clearance}
use Rattle.theory_plane.specs.Regions.{Region}
use Rattle.sb_fraction.specs.Edges.{edge}
use Rattle.sb_fraction.specs.Directions.{axis_x, direction_of, runs_along, step}
use Rattle.sb_fraction.specs.Lines.{span_along, line_over}
use Rattle.sb_fraction.specs.declared.point.Point.{Point}
use Rattle.sb_model.specs.Surfaces.FineCells.{is_across_slab, is_cut_height, IsUprightPiece, IsLineOf}
use Rattle.theory_models.proofs.ExampleModels.{plan_point, block, box}

-- ---- which edges span a slab

abbrev at : ℕ → Arrow
at n = rational (pos n) (pos 1)

-- from end to end, and beyond both ends

spans_its_slab : is_across_slab axis_x (at 0) (at 4000) (edge (plan_point 0 0) (plan_point 4000 0)) ≡ true
unfolding cross
spans_its_slab = refl

spans_a_part : is_across_slab axis_x (at 100) (at 900) (edge (plan_point 4000 0) (plan_point 0 0)) ≡ true
unfolding cross
spans_a_part = refl

-- not where it ends inside, nor where it stands upright
ends_inside : is_across_slab axis_x (at 0) (at 4000) (edge (plan_point 0 0) (plan_point 3999 0)) ≡ false
unfolding cross
ends_inside = refl

stands_upright : is_across_slab axis_x (at 0) (at 4000) (edge (plan_point 0 0) (plan_point 0 3000)) ≡ false
unfolding cross
stands_upright = refl

-- ---- which lines are those of an edge

-- v = 5·u/10, written in lowest terms
own_line : IsLineOf (line (pos 2) (pos 1) (pos 0)) (edge (plan_point 0 0) (plan_point 10 5))
unfolding cross dot clearance span_along
own_line = (refl, refl)

-- and not v = 5·u/10 + 1
other_line : IsLineOf (line (pos 2) (pos 1) (pos 2)) (edge (plan_point 0 0) (plan_point 10 5)) → ⊥
unfolding cross dot clearance span_along
other_line same = let first = same.0 in absurd (omega (arith, ints))

-- ---- which heights cut

lower_height : is_cut_height box (pos 0) ≡ true
lower_height = refl

upper_height : is_cut_height box (pos 2500) ≡ true
upper_height = refl

no_height : is_cut_height box (pos 1000) ≡ false
no_height = refl

-- ---- pieces of a side

abbrev between : ℤ → ℤ → Region
between from to =
    record { low = at 0; high = at 4000; lower = level from; upper = level to }

-- the whole side of the box is a piece
whole_side : IsUprightPiece box (block 0 4000 0 3000 2500)
    (edge (plan_point 0 0) (plan_point 4000 0)) (between (pos 0) (pos 2500))
unfolding cross direction_of runs_along step greatest_divisor divisor_within
whole_side =
    record {
      from = pos 0;
      to = pos 2500;
      lower = refl;
      upper = refl;
      spans = spans;
      first = refl;
      last = refl;
      none = none;
      above = omega (arith, ints);
      below = omega (arith, ints);
    }
  where
    spans : is_across_slab (direction_of (edge (plan_point 0 0) (plan_point 4000 0))) (at 0) (at 4000)
        (edge (plan_point 0 0) (plan_point 4000 0)) ≡ true
    spans = refl

    none : (z : ℤ) → pos 0 <ℤ z → z <ℤ pos 2500 → is_cut_height box z ≡ false
    none z above below =
        rw (
          test_not_equal z (pos 0) (λ same. omega (arith, ints)),
          test_not_equal z (pos 2500) (λ same. omega (arith, ints)),
        ) refl

-- a part of it up to a height that cuts nothing is none
part_is_refused : IsUprightPiece box (block 0 4000 0 3000 2500)
    (edge (plan_point 0 0) (plan_point 4000 0)) (between (pos 0) (pos 1000)) → ⊥
part_is_refused piece =
    let to : pos 1000 ≡ piece.to = ap (λ (l : LineSide). l.off) piece.upper in
    false≢true (ap (is_cut_height box) to ∙ piece.last)

-- ---- pieces of Bottom and Top

abbrev edge_of_box : ℕ → ℕ → ℕ → ℕ → PlanEdge
edge_of_box x0 y0 x1 y1 = record { edge = edge (plan_point x0 y0) (plan_point x1 y1); product = 20 }

abbrev floor : Region
floor = record { low = at 0; high = at 4000; lower = level (pos 0); upper = level (pos 3000) }

-- its plan edges are four
four_edges : plan_edges box
    ≡ edge_of_box 0 0 4000 0 ∷ edge_of_box 4000 0 4000 3000 ∷ edge_of_box 4000 3000 0 3000
    ∷ edge_of_box 0 3000 0 0 ∷ []
four_edges = refl

-- the line of the front edge is v = 0, that of the back edge v = 3,000
front_line : IsOfSpanning box (at 0) (at 4000) (level (pos 0))
unfolding cross dot clearance span_along
front_line = (edge_of_box 0 0 4000 0, (inl refl, (refl, (refl, refl))))

back_line : IsOfSpanning box (at 0) (at 4000) (level (pos 3000))
unfolding cross dot clearance span_along
back_line = (edge_of_box 4000 3000 0 3000, (inr (inr (inl refl)), (refl, (refl, refl))))

abbrev is_off : FacePoint → PlanEdge → Type 0
is_off point e = is_on_side (line_over way_x e.edge) point ≡ false

-- a point of the floor lies strictly between the two
between_lines : (u v w : ℤ) → is_inside floor (face_point u v w) ≡ true
    → (pos 0 <ℤ v) × (v <ℤ (pos 3000 *ℤ w))
between_lines u v w inside =
    let parts =
    and_parts (is_spanned floor (rational u w))
    (is_above_side (level (pos 0)) (face_point u v w)
    && is_under_side (level (pos 3000)) (face_point u v w)) inside
    in
    let sides =
    and_parts (is_above_side (level (pos 0)) (face_point u v w))
    (is_under_side (level (pos 3000)) (face_point u v w)) parts.1
    in
    let above = less_from (pos 0 *ℤ w) ((pos 1 *ℤ v) -ℤ (pos 0 *ℤ u)) sides.0 in
    let below = less_from ((pos 1 *ℤ v) -ℤ (pos 0 *ℤ u)) (pos 3000 *ℤ w) sides.1 in
    (omega (arith, ints), omega (arith, ints))

-- and strictly between the ends
spanned : (u v w : ℤ) → is_inside floor (face_point u v w) ≡ true
    → (pos 0 <ℤ u) × (u <ℤ (pos 4000 *ℤ w))
unfolding cross
spanned u v w inside =
    let parts =
    and_parts (is_spanned floor (rational u w))
    (is_above_side (level (pos 0)) (face_point u v w)
    && is_under_side (level (pos 3000)) (face_point u v w)) inside
    in
    let ends =
    and_parts (is_below (at 0) (rational u w)) (is_below (rational u w) (at 4000)) parts.0
    in
    let after = less_from (pos 0) ((pos 1 *ℤ u) -ℤ (pos 0 *ℤ w)) ends.0 in
    let before = less_from (pos 0) ((w *ℤ pos 4000) -ℤ (u *ℤ pos 1)) ends.1 in
    (omega (arith, ints), omega (arith, ints))

right : is_across_slab axis_x (at 0) (at 4000) (edge (plan_point 4000 0) (plan_point 4000 3000)) ≡ false
unfolding cross
right = refl

left : is_across_slab axis_x (at 0) (at 4000) (edge (plan_point 0 3000) (plan_point 0 0)) ≡ false
unfolding cross
left = refl

-- so it lies on neither line
off_front : (u v w : ℤ) → pos 0 <ℤ v → is_off (face_point u v w) (edge_of_box 0 0 4000 0)
unfolding cross dot span_along
off_front u v w above =
    test_not_equal ((pos 4000 *ℤ v) -ℤ (pos 0 *ℤ u)) (pos 0 *ℤ w)
    (λ (same : ((pos 4000 *ℤ v) -ℤ (pos 0 *ℤ u)) ≡ (pos 0 *ℤ w)). omega (arith, ints))

off_back : (u v w : ℤ) → v <ℤ (pos 3000 *ℤ w)
    → is_off (face_point u v w) (edge_of_box 4000 3000 0 3000)
unfolding cross dot span_along
off_back u v w below =
    test_not_equal ((pos 4000 *ℤ v) -ℤ (pos 0 *ℤ u)) (pos 12000000 *ℤ w)
    (λ (same : ((pos 4000 *ℤ v) -ℤ (pos 0 *ℤ u)) ≡ (pos 12000000 *ℤ w)). omega (arith, ints))

off_each : (u v w : ℤ) → is_inside floor (face_point u v w) ≡ true
    → (e : PlanEdge) → Stands e (plan_edges box)
    → is_across_slab axis_x (at 0) (at 4000) e.edge ≡ true → is_off (face_point u v w) e
off_each u v w inside e at_e spans = from at_e spans
  where
    bounds : (pos 0 <ℤ v) × (v <ℤ (pos 3000 *ℤ w))
    bounds = between_lines u v w inside

    from : Stands e (plan_edges box) → is_across_slab axis_x (at 0) (at 4000) e.edge ≡ true
        → is_off (face_point u v w) e
    from (inl same) across = subst (is_off (face_point u v w)) (sym same) (off_front u v w bounds.0)
    from (inr (inl same)) across =
        absurd
        (false≢true
        (sym right ∙ ap (λ (g : PlanEdge). is_across_slab axis_x (at 0) (at 4000) g.edge) (sym same)
        ∙ across))
    from (inr (inr (inl same))) across =
        subst (is_off (face_point u v w)) (sym same) (off_back u v w bounds.1)
    from (inr (inr (inr (inl same)))) across =
        absurd
        (false≢true
        (sym left ∙ ap (λ (g : PlanEdge). is_across_slab axis_x (at 0) (at 4000) g.edge) (sym same)
        ∙ across))
    from (inr (inr (inr (inr none)))) across = absurd none

-- the whole floor of the box is a piece
whole_floor : IsLevelPiece box (rectangle (pos 0) (pos 4000) (pos 0) (pos 3000) ∷ []) floor
whole_floor =
    record {
      lower = front_line;
      upper = back_line;
      undivided = λ e at_e spans point point_in inside.
          off_each point.u point.v point.w inside e at_e spans;
      inside = λ p p_is at_p.
          inside_rectangle (pos 0) (pos 4000) (pos 0) (pos 3000) p (omega (arith, ints))
          (omega (arith, ints)) p_is
          ∙ within p.x p.y p.w at_p;
    }
  where
    within : (x y w : ℤ) → is_inside floor (face_point x y w) ≡ true
        → ((int_lt (pos 0 *ℤ w) x && int_lt x (pos 4000 *ℤ w))
        && (int_lt (pos 0 *ℤ w) y && int_lt y (pos 3000 *ℤ w))) ≡ true
    within x y w at_p =
        let bounds = between_lines x y w at_p in
        let ends = spanned x y w at_p in
        and_from (int_lt (pos 0 *ℤ w) x && int_lt x (pos 4000 *ℤ w))
        (int_lt (pos 0 *ℤ w) y && int_lt y (pos 3000 *ℤ w))
        (and_from (int_lt (pos 0 *ℤ w) x) (int_lt x (pos 4000 *ℤ w))
        (test_less (pos 0 *ℤ w) x (omega (arith, ints)))
        (test_less x (pos 4000 *ℤ w) (omega (arith, ints))))
        (and_from (int_lt (pos 0 *ℤ w) y) (int_lt y (pos 3000 *ℤ w))
        (test_less (pos 0 *ℤ w) y (omega (arith, ints)))
        (test_less y (pos 3000 *ℤ w) (omega (arith, ints))))

-- the lines of two edges are apart from v = 1,500
off_front_line : IsLineOf (level (pos 1500)) (edge (plan_point 0 0) (plan_point 4000 0)) → ⊥
unfolding cross dot clearance span_along
off_front_line same = let first = same.0 in absurd (omega (arith, ints))

off_back_line : IsLineOf (level (pos 1500)) (edge (plan_point 4000 3000) (plan_point 0 3000)) → ⊥
unfolding cross dot clearance span_along
off_back_line same = let first = same.0 in absurd (omega (arith, ints))

abbrev half_floor : Region
half_floor = record { low = at 0; high = at 4000; lower = level (pos 0); upper = level (pos 1500) }

-- half of it is none: no edge that spans lies on the line between the halves
no_middle_line : (e : PlanEdge) → Stands e (plan_edges box)
    → is_across_slab axis_x (at 0) (at 4000) e.edge ≡ true
    → IsLineOf (level (pos 1500)) e.edge → ⊥
no_middle_line e (inl same) spans on =
    off_front_line (subst (λ (g : PlanEdge). IsLineOf (level (pos 1500)) g.edge) same on)
no_middle_line e (inr (inl same)) spans on =
    false≢true
    (sym right ∙ ap (λ (g : PlanEdge). is_across_slab axis_x (at 0) (at 4000) g.edge) (sym same) ∙ spans)
no_middle_line e (inr (inr (inl same))) spans on =
    off_back_line (subst (λ (g : PlanEdge). IsLineOf (level (pos 1500)) g.edge) same on)
no_middle_line e (inr (inr (inr (inl same)))) spans on =
    false≢true
    (sym left ∙ ap (λ (g : PlanEdge). is_across_slab axis_x (at 0) (at 4000) g.edge) (sym same) ∙ spans)
no_middle_line e (inr (inr (inr (inr none)))) spans on = none

half_floor_is_refused : (loops : List (List Point)) → IsLevelPiece box loops half_floor → ⊥
half_floor_is_refused loops piece =
    let upper = piece.upper in no_middle_line upper.0 upper.1.0 upper.1.1.0 upper.1.1.1
