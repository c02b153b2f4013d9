-- Of two fine cells of one face over one slab, the first of which comes first, the first is under
-- the second: its upper side is the other's lower side, or lies below it strictly inside the slab.
use Rattle.std.proofs.Common.{◌≡◌, refl, sym, ◌∙◌, ap, subst, inl, inr, ◌⊎◌, ⊎_elim, arith, ℤ, pos}
use Rattle.std.proofs.Common.{◌<ℤ◌, ◌≤ℤ◌, ◌-ℤ◌, ◌*ℤ◌, Bool, true, false}
use Rattle.std.proofs.Common.{◌+ℤ◌}
use Rattle.std.proofs.lemmas.Int.{ints, by_lt_z}
use Rattle.std.proofs.lemmas.Bool.{or_right, false≢true}
use Rattle.std.specs.List.{list_any}
use Rattle.theory_lists.specs.Members.{Stands}
use Rattle.theory_lists.proofs.Members.{any_stands}
use Rattle.theory_numbers.specs.Arrows.{Arrow, dot}
use Rattle.theory_numbers.specs.Rationals.{IsRational, IsBelow, IsSame, mediant}
use Rattle.theory_numbers.proofs.Fractions.Rationals.{mediant-IsRational, mediant_between}
use Rattle.theory_numbers.proofs.Fractions.Rationals.{same_sym, same_trans}
use Rattle.theory_numbers.proofs.Ring.{mul_comm}
use Rattle.theory_numbers.proofs.Products.{positive_product, weak_factor}
use Rattle.theory_plane.specs.Sides.{LineSide, IsLineSide, level, clearance, clearance_at}
use Rattle.theory_plane.specs.Sides.{is_same_side, value_on, IsReducedSide}
use Rattle.theory_plane.proofs.Clearance.{meeting_is, value_on-IsRational, clearance-level}
use Rattle.theory_plane.proofs.LeadsUntilMeeting.{value-zero_form}
use Rattle.theory_plane.proofs.SameSide.{same_side_decides, meet_once}
use Rattle.theory_joining.specs.Cells.{IsClearOver}
use Rattle.sb_fraction.specs.Edges.{Edge}
use Rattle.sb_fraction.specs.Crossings.{cross_over, ends_over}
use Rattle.sb_fraction.specs.Directions.{axis_x}
use Rattle.sb_fraction.specs.Lines.{line_over}
use Rattle.sb_model.specs.Building.{Building}
use Rattle.sb_model.specs.PlanEdges.{PlanEdge, plan_edges}
use Rattle.sb_model.specs.Surfaces.FineCells.{AreNeighbours, way_x, is_across_slab, IsLineOf, IsOfSpanning}
use Rattle.theory_parity.specs.Below.{IsWay}
use Rattle.theory_lines.proofs.OneLiesBelow.{crossing_between, spanning_is_line}

-- (1, 0) is a way
pub way_x_is : IsWay way_x
unfolding dot
way_x_is = omega (arith, ints)

-- ---- Bottom and Top

-- the side has the values of the line of its edge
pub value_of_line : (side : LineSide) (e : Edge) → IsLineOf side e → (u : Arrow) → IsRational u
    → IsSame (value_on side u) (value_on (line_over way_x e) u)
value_of_line side e is u u_in =
    (meeting_is side (line_over way_x e) u u_in).1
    (value-zero_form (clearance side (line_over way_x e)) u is)

module _ (m : Building) (low high : Arrow) (low_in : IsRational low) (high_in : IsRational high)
    (wide : IsBelow low high) (near : AreNeighbours m axis_x low high) (l k : LineSide)
    (l_in : IsLineSide l) (k_in : IsLineSide k) (l_reduced : IsReducedSide l)
    (k_reduced : IsReducedSide k) (e f : PlanEdge) (e_in : Stands e (plan_edges m))
    (f_in : Stands f (plan_edges m)) (spans_e : is_across_slab axis_x low high e.edge ≡ true)
    (spans_f : is_across_slab axis_x low high f.edge ≡ true) (l_is : IsLineOf l e.edge)
    (k_is : IsLineOf k f.edge) where
  line_e : LineSide
  line_e = line_over way_x e.edge

  line_f : LineSide
  line_f = line_over way_x f.edge

  e_line : IsLineSide (line_over way_x e.edge)
  e_line = spanning_is_line way_x low high low_in high_in wide e.edge spans_e

  f_line : IsLineSide (line_over way_x f.edge)
  f_line = spanning_is_line way_x low high low_in high_in wide f.edge spans_f

  -- where the two lines of the edges meet, so do the sides, and the other way round
  sides_meet : (u : Arrow) → IsRational u
      → clearance_at (line_over way_x e.edge) (line_over way_x f.edge) u ≡ pos 0
      → clearance_at l k u ≡ pos 0
  sides_meet u u_in zero =
      (meeting_is l k u u_in).0
      (same_trans (value_on l u) (value_on (line_over way_x e.edge) u) (value_on k u)
      (value_on-IsRational (line_over way_x e.edge) u e_line u_in)
      (value_of_line l e.edge l_is u u_in)
      (same_trans (value_on (line_over way_x e.edge) u) (value_on (line_over way_x f.edge) u)
      (value_on k u) (value_on-IsRational (line_over way_x f.edge) u f_line u_in)
      ((meeting_is (line_over way_x e.edge) (line_over way_x f.edge) u u_in).1 zero)
      (same_sym (value_on k u) (value_on (line_over way_x f.edge) u)
      (value_of_line k f.edge k_is u u_in))))

  lines_meet : (u : Arrow) → IsRational u → clearance_at l k u ≡ pos 0
      → clearance_at (line_over way_x e.edge) (line_over way_x f.edge) u ≡ pos 0
  lines_meet u u_in zero =
      (meeting_is (line_over way_x e.edge) (line_over way_x f.edge) u u_in).0
      (same_trans (value_on (line_over way_x e.edge) u) (value_on l u)
      (value_on (line_over way_x f.edge) u) (value_on-IsRational l u l_in u_in)
      (same_sym (value_on l u) (value_on (line_over way_x e.edge) u)
      (value_of_line l e.edge l_is u u_in))
      (same_trans (value_on l u) (value_on k u) (value_on (line_over way_x f.edge) u)
      (value_on-IsRational k u k_in u_in) ((meeting_is l k u u_in).1 zero)
      (value_of_line k f.edge k_is u u_in)))

  -- two sides of which none is the other meet nowhere strictly inside the slab
  meets_nowhere : (l ≡ k → ⊥) → (u : Arrow) → IsRational u → IsBelow low u → IsBelow u high
      → clearance_at l k u ≡ pos 0 → ⊥
  meets_nowhere other u u_in after before zero =
      ⊎_elim
      (λ one.
      let w = mediant low u in
      let w_in = mediant-IsRational low u low_in u_in in
      let between = mediant_between low u after in
      let same =
      meet_once l k l_reduced k_reduced other w u
      (sides_meet w w_in (value-zero_form (clearance (line_over way_x e.edge)
      (line_over way_x f.edge)) w one))
      zero
      in
      let less : IsBelow w u = between.1 in
      absurd (omega (arith, ints)))
      (λ crosses.
      false≢true
      (sym (near.none u u_in after before)
      ∙ or_right (list_any (λ g. ends_over axis_x u g.edge) (plan_edges m))
      (list_any (λ g. list_any (λ h. cross_over axis_x u g.edge h.edge) (plan_edges m))
      (plan_edges m))
      (any_stands (λ g. list_any (λ h. cross_over axis_x u g.edge h.edge) (plan_edges m)) e
      (plan_edges m) e_in
      (any_stands (λ h. cross_over axis_x u e.edge h.edge) f (plan_edges m) f_in crosses))))
      (crossing_between way_x low high u way_x_is low_in high_in u_in after before e.edge f.edge
      spans_e spans_f (lines_meet u u_in zero))

-- so a side that is nowhere above another is it, or is below it
pub level_sides_rise : (m : Building) (low high : Arrow) → IsRational low → IsRational high
    → IsBelow low high → AreNeighbours m axis_x low high → (l k : LineSide)
    → IsReducedSide l → IsReducedSide k → IsOfSpanning m low high l → IsOfSpanning m low high k
    → ((u : Arrow) → IsRational u → IsBelow low u → IsBelow u high → pos 0 ≤ℤ clearance_at l k u)
    → (l ≡ k) ⊎ IsClearOver low high l k
level_sides_rise m low high low_in high_in wide near l k l_in k_in (e, (e_in, (spans_e, l_is)))
    (f, (f_in, (spans_f, k_is))) under =
    from (is_same_side l k) refl
  where
    from : (b : Bool) → is_same_side l k ≡ b → (l ≡ k) ⊎ IsClearOver low high l k
    from true same = inl ((same_side_decides l k).0 same)
    from false other =
        inr
        (λ u u_in after before.
        let weak = under u u_in after before in
        by_lt_z (pos 0) (clearance_at l k u) (λ above. above)
        (λ low_there.
        absurd
        (meets_nowhere m low high low_in high_in wide near l k l_in.positive k_in.positive l_in k_in
        e f e_in f_in spans_e spans_f l_is k_is
        (λ same. false≢true (sym other ∙ (same_side_decides l k).1 same)) u u_in after before
        (omega (arith, ints)))))

-- ---- sides

level_clearance : (g h : ℤ) (u : Arrow)
    → clearance_at (level g) (level h) u ≡ (h -ℤ g) *ℤ u.x
unfolding dot
level_clearance g h u =
    ap (λ (form : Arrow). (form.x *ℤ u.x) +ℤ (form.y *ℤ u.y)) (clearance-level g h)
    ∙ none (h -ℤ g) u.x u.y
  where
    none : (a x y : ℤ) → (a *ℤ x) +ℤ (pos 0 *ℤ y) ≡ a *ℤ x
    none a x y = omega (arith, ints)

-- a height that is nowhere above another is it, or is below it
pub heights_rise : (low high : Arrow) → IsRational low → IsRational high → IsBelow low high
    → (g h : ℤ)
    → ((u : Arrow) → IsRational u → IsBelow low u → IsBelow u high
    → pos 0 ≤ℤ clearance_at (level g) (level h) u)
    → (level g ≡ level h) ⊎ IsClearOver low high (level g) (level h)
heights_rise low high low_in high_in wide g h under =
    by_lt_z g h (λ less. inr (λ u u_in after before. clear less u u_in))
    (λ not_less. inl (ap level (equal not_less)))
  where
    clear : g <ℤ h → (u : Arrow) → IsRational u → pos 0 <ℤ clearance_at (level g) (level h) u
    clear less u u_in =
        subst (λ n. pos 0 <ℤ n) (sym (level_clearance g h u))
        (positive_product (h -ℤ g) u.x (omega (arith, ints)) u_in)

    equal : h ≤ℤ g → g ≡ h
    equal not_less =
        let w = mediant low high in
        let w_in = mediant-IsRational low high low_in high_in in
        let between = mediant_between low high wide in
        let weak : pos 0 ≤ℤ ((h -ℤ g) *ℤ w.x) =
        subst (λ n. pos 0 ≤ℤ n) (level_clearance g h w) (under w w_in between.0 between.1) in
        let turned = mul_comm (h -ℤ g) w.x in
        let rest = weak_factor w.x (h -ℤ g) w_in (omega (arith, ints)) in
        omega (arith, ints)
