-- Of two edges that span a slab one lies below the other strictly inside it, or both lie on one line:
-- which one, the order of their lines just after the slab's beginning tells.

use Rattle.std.proofs.Common.{◌≡◌, ◌⊎◌, inl, inr, refl, sym, ap, ◌∙◌, arith, pos, ◌≤ℤ◌}
use Rattle.std.proofs.Common.{◌+ℤ◌, ◌*ℤ◌, Bool, true, false}
use Rattle.std.specs.List.{list_any}
use Rattle.std.proofs.lemmas.Int.{ints}
use Rattle.std.proofs.lemmas.Bool.{or_right, false≢true}
use Rattle.theory_lists.specs.Members.{Stands}
use Rattle.theory_lists.proofs.Members.{any_stands}
use Rattle.theory_numbers.specs.Arrows.{Arrow, cross}
use Rattle.theory_numbers.specs.Rationals.{IsRational, IsBelow, IsAtMost, IsSame, IsForm, value_at}
use Rattle.theory_numbers.specs.Rationals.{mediant}
use Rattle.theory_numbers.specs.Intervals.{Keeps}
use Rattle.theory_numbers.proofs.Fractions.Clear.{positive_at_ends}
use Rattle.theory_numbers.proofs.Products.{weak_product, weak_factor}
use Rattle.theory_numbers.proofs.Fractions.Rationals.{at_most_below_trans, at_most_refl, at_most_from_below}
use Rattle.theory_numbers.proofs.Fractions.Rationals.{mediant_between, mediant-IsRational, number_cases}
use Rattle.theory_numbers.proofs.Fractions.Rationals.{below_clash, same_sym}
use Rattle.theory_numbers.proofs.Ring.{zero-mul}
use Rattle.theory_numbers.proofs.Shapes.{var, plus, times, equal, cross_is, dot_is}
use Rattle.theory_plane.specs.Sides.{IsLineSide, clearance, clearance_at}
use Rattle.theory_plane.specs.Leads.{leads}
use Rattle.theory_plane.proofs.Clearance.{clearance-turn, higher_is, meeting_is}
use Rattle.theory_plane.proofs.LeadsUntilMeeting.{order_after, zero_if_none_leads}
use Rattle.theory_plane.proofs.LeadsUntilMeeting.{value-zero_form, form_if_leads}
use Rattle.theory_plane.proofs.LeadsIsAnOrder.{slope-turn, offset-turn}
use Rattle.sb_fraction.specs.Edges.{Edge}
use Rattle.sb_fraction.specs.Crossings.{cross_over, ends_over}
use Rattle.sb_fraction.specs.Lines.{flat, line_over}
use Rattle.sb_model.specs.Building.{Building}
use Rattle.sb_model.specs.PlanEdges.{PlanEdge, plan_edges}
use Rattle.theory_parity.specs.Below.{IsWay, value_of}
use Rattle.theory_parity.proofs.Rays.BelowFlips.{reaching_is_line}
use Rattle.theory_lines.specs.Slabs.{IsSlab, is_spanning, IsUnder, AreOnOneLine}
use Rattle.theory_lines.proofs.EdgesOverASlab.{spanning_reaches, spanning_ends_nowhere}
use Rattle.theory_lines.proofs.LinesMeetAtCrossings.{crosses_or_one_line}

-- ---- any slab

-- where the clearance of two spanning edges is 0 strictly inside they cross there, or their lines are
-- one line
pub crossing_between : (d low high u : Arrow) → IsWay d → IsRational low → IsRational high
    → IsRational u → IsBelow low u → IsBelow u high → (e f : Edge)
    → is_spanning d low high e ≡ true → is_spanning d low high f ≡ true
    → clearance_at (line_over d e) (line_over d f) u ≡ pos 0
    → AreOnOneLine d e f ⊎ (cross_over (flat d) u e f ≡ true)
crossing_between d low high u d_is low_in high_in u_in after before e f spans_e spans_f zero =
    let from_low = at_most_from_below low u after in
    crosses_or_one_line d u d_is u_in e f
    (spanning_reaches d low high u low_in high_in u_in e spans_e from_low before)
    (spanning_reaches d low high u low_in high_in u_in f spans_f from_low before)
    (spanning_ends_nowhere d low high u low_in high_in u_in e spans_e after before)
    (spanning_ends_nowhere d low high u low_in high_in u_in f spans_f after before) zero

-- the line of a spanning edge has a value at each number
pub spanning_is_line : (d low high : Arrow) → IsRational low → IsRational high → IsBelow low high
    → (e : Edge) → is_spanning d low high e ≡ true → IsLineSide (line_over d e)
spanning_is_line d low high low_in high_in wide e spans =
    reaching_is_line d low e
    (spanning_reaches d low high low low_in high_in low_in e spans (at_most_refl low) wide)

-- two on one line, in the other order
pub one_line_turned : (d : Arrow) (e f : Edge) → AreOnOneLine d e f → AreOnOneLine d f e
one_line_turned d e f zero =
    let turn = offset-turn (line_over d e) (line_over d f) in
    let slope = slope-turn (line_over d e) (line_over d f) in
    (omega (arith, ints, zero.0), omega (arith, ints, zero.1))

-- two on one line have one value at each number
pub one_line_meets : (d : Arrow) (e f : Edge) → AreOnOneLine d e f → (u : Arrow)
    → clearance_at (line_over d e) (line_over d f) u ≡ pos 0
one_line_meets d e f one u = value-zero_form (clearance (line_over d e) (line_over d f)) u one

-- a form that is at least 0 at a number is so at the same number
weak_at_same : (form r u : Arrow) → IsRational r → IsRational u → IsSame r u
    → pos 0 ≤ℤ value_at form r → pos 0 ≤ℤ value_at form u
weak_at_same form r u r_in u_in same high =
    let whole : r.x *ℤ value_at form u ≡ (cross r u *ℤ form.y) +ℤ (u.x *ℤ value_at form r) =
    equal (times (var r.x) (dot_is form u))
    (plus (times (cross_is r u) (var form.y)) (times (var u.x) (dot_is form r))) (omega arith) in
    let none : cross r u *ℤ form.y ≡ pos 0 = ap (λ n. n *ℤ form.y) same ∙ zero-mul form.y in
    let weak = weak_product u.x (value_at form r) (omega (arith, ints)) high in
    weak_factor r.x (value_at form u) r_in (omega (arith, ints))

-- ---- a slab of a model

module _ (m : Building) (d low high : Arrow) (d_is : IsWay d) (slab : IsSlab m d low high)
    (e f : PlanEdge) (e_in : Stands e (plan_edges m)) (f_in : Stands f (plan_edges m))
    (spans_e : is_spanning d low high e.edge ≡ true)
    (spans_f : is_spanning d low high f.edge ≡ true) where
  -- two edges of the model do not cross strictly inside
  crosses_nowhere : (u : Arrow) → IsRational u → IsBelow low u → IsBelow u high
      → cross_over (flat d) u e.edge f.edge ≡ true → ⊥
  crosses_nowhere u u_in after before crosses =
      false≢true
      (sym (slab.none u u_in after before)
      ∙ or_right (list_any (λ g. ends_over (flat d) u g.edge) (plan_edges m))
      (list_any (λ g. list_any (λ h. cross_over (flat d) u g.edge h.edge) (plan_edges m))
      (plan_edges m))
      (any_stands (λ g. list_any (λ h. cross_over (flat d) u g.edge h.edge) (plan_edges m)) e
      (plan_edges m) e_in
      (any_stands (λ h. cross_over (flat d) u e.edge h.edge) f (plan_edges m) f_in crosses)))

  -- so the lines of two that span it meet nowhere strictly inside, or are one line
  pub no_meeting : IsForm (clearance (line_over d e.edge) (line_over d f.edge)) → (u : Arrow)
      → IsRational u → IsBelow low u → IsBelow u high
      → clearance_at (line_over d e.edge) (line_over d f.edge) u ≡ pos 0 → ⊥
  no_meeting other u u_in after before zero =
      from
      (crossing_between d low high u d_is slab.low_in slab.high_in u_in after before e.edge f.edge
      spans_e spans_f zero)
    where
      from : AreOnOneLine d e.edge f.edge ⊎ (cross_over (flat d) u e.edge f.edge ≡ true) → ⊥
      from (inl one) = other one
      from (inr crosses) = crosses_nowhere u u_in after before crosses

  -- and have different values there
  pub values_differ : IsForm (clearance (line_over d e.edge) (line_over d f.edge)) → (u : Arrow)
      → IsRational u → IsBelow low u → IsBelow u high
      → IsSame (value_of d u e.edge) (value_of d u f.edge) → ⊥
  values_differ other u u_in after before same =
      no_meeting other u u_in after before
      ((meeting_is (line_over d e.edge) (line_over d f.edge) u u_in).0 same)

  -- of two spanning edges the one whose line leads just after low lies above strictly inside
  pub leads_is_under : leads low (line_over d e.edge) (line_over d f.edge) ≡ true
      → IsUnder d low high e.edge f.edge
  leads_is_under answer u u_in after before =
      order_after low u (line_over d e.edge) (line_over d f.edge) slab.low_in u_in after answer
      (λ y y_in above within zero.
      no_meeting (form_if_leads low (line_over d e.edge) (line_over d f.edge) answer) y y_in above
      (at_most_below_trans y u high y_in u_in slab.high_in within before) zero)

-- of two spanning edges of a model one lies below the other strictly inside the slab, or both lie on
-- one line
pub one_lies_below : (m : Building) (d low high : Arrow) → IsWay d → IsSlab m d low high
    → (e f : PlanEdge) → Stands e (plan_edges m) → Stands f (plan_edges m)
    → is_spanning d low high e.edge ≡ true → is_spanning d low high f.edge ≡ true
    → IsUnder d low high e.edge f.edge
    ⊎ (AreOnOneLine d e.edge f.edge ⊎ IsUnder d low high f.edge e.edge)
one_lies_below m d low high d_is slab e f e_in f_in spans_e spans_f =
    from (leads low (line_over d e.edge) (line_over d f.edge))
    (leads low (line_over d f.edge) (line_over d e.edge)) refl refl
  where
    from : (b c : Bool) → leads low (line_over d e.edge) (line_over d f.edge) ≡ b
        → leads low (line_over d f.edge) (line_over d e.edge) ≡ c
        → IsUnder d low high e.edge f.edge
        ⊎ (AreOnOneLine d e.edge f.edge ⊎ IsUnder d low high f.edge e.edge)
    from true c first second =
        inl (leads_is_under m d low high d_is slab e f e_in f_in spans_e spans_f first)
    from false true first second =
        inr (inr (leads_is_under m d low high d_is slab f e f_in e_in spans_f spans_e second))
    from false false first second =
        inr (inl (zero_if_none_leads low (line_over d e.edge) (line_over d f.edge) first second
        slab.low_in))

-- so the clearance of two that do not lie on one line keeps its sign strictly inside
pub clearance_keeps : (m : Building) (d low high : Arrow) → IsWay d → IsSlab m d low high
    → (e f : PlanEdge) → Stands e (plan_edges m) → Stands f (plan_edges m)
    → is_spanning d low high e.edge ≡ true → is_spanning d low high f.edge ≡ true
    → (AreOnOneLine d e.edge f.edge → ⊥)
    → Keeps low high (clearance (line_over d e.edge) (line_over d f.edge))
clearance_keeps m d low high d_is slab e f e_in f_in spans_e spans_f other =
    from (one_lies_below m d low high d_is slab e f e_in f_in spans_e spans_f)
  where
    from : IsUnder d low high e.edge f.edge
        ⊎ (AreOnOneLine d e.edge f.edge ⊎ IsUnder d low high f.edge e.edge)
        → Keeps low high (clearance (line_over d e.edge) (line_over d f.edge))
    from (inl under) = inl under
    from (inr (inl one)) = absurd (other one)
    from (inr (inr over)) =
        inr (λ u u_in after before.
        let high_there = over u u_in after before in
        let turn = clearance-turn (line_over d f.edge) (line_over d e.edge) u in
        omega (arith, ints))

-- ---- what the order strictly inside says elsewhere

module _ (d low high : Arrow) (low_in : IsRational low) (high_in : IsRational high)
    (wide : IsBelow low high) where
  -- of two edges that lie below each other there are none
  pub under_one_way : (e f : Edge) → IsUnder d low high e f → IsUnder d low high f e → ⊥
  under_one_way e f first second =
      let inside = mediant_between low high wide in
      let m_in = mediant-IsRational low high low_in high_in in
      let up = first (mediant low high) m_in inside.0 inside.1 in
      let down = second (mediant low high) m_in inside.0 inside.1 in
      let turn = clearance-turn (line_over d e) (line_over d f) (mediant low high) in
      omega (arith, ints)

  -- nor does an edge lie below one on its line
  pub under_not_one_line : (e f : Edge) → IsUnder d low high e f → AreOnOneLine d e f → ⊥
  under_not_one_line e f under one =
      let inside = mediant_between low high wide in
      let m_in = mediant-IsRational low high low_in high_in in
      let up = under (mediant low high) m_in inside.0 inside.1 in
      let none = value-zero_form (clearance (line_over d e) (line_over d f)) (mediant low high) one in
      omega (arith, ints)

  -- the lower one lies nowhere above the other, the ends of the slab taken in
  pub under_to_ends : (e f : Edge) → IsUnder d low high e f → (u : Arrow) → IsRational u
      → IsAtMost low u → IsAtMost u high → pos 0 ≤ℤ clearance_at (line_over d e) (line_over d f) u
  under_to_ends e f under u u_in after before = from (number_cases low u) (number_cases u high)
    where
      ends : (pos 0 ≤ℤ clearance_at (line_over d e) (line_over d f) low)
          × (pos 0 ≤ℤ clearance_at (line_over d e) (line_over d f) high)
      ends =
          positive_at_ends (clearance (line_over d e) (line_over d f)) low high low_in high_in wide
          under

      from : (IsBelow low u ⊎ IsSame low u) ⊎ IsBelow u low
          → (IsBelow u high ⊎ IsSame u high) ⊎ IsBelow high u
          → pos 0 ≤ℤ clearance_at (line_over d e) (line_over d f) u
      from (inr less) _ = absurd (below_clash u low less after)
      from (inl (inr same)) _ =
          weak_at_same (clearance (line_over d e) (line_over d f)) low u low_in u_in same ends.0
      from (inl (inl above)) (inr more) = absurd (below_clash high u more before)
      from (inl (inl above)) (inl (inr same)) =
          weak_at_same (clearance (line_over d e) (line_over d f)) high u high_in u_in
          (same_sym u high same) ends.1
      from (inl (inl above)) (inl (inl below)) =
          let high_there = under u u_in above below in omega (arith, ints)

-- ---- values

-- at a number strictly inside the lower of two edges has the lesser value
pub under_has_less : (d low high u : Arrow) → IsRational u → IsBelow low u → IsBelow u high
    → (e f : Edge) → IsUnder d low high e f → IsBelow (value_of d u e) (value_of d u f)
under_has_less d low high u u_in after before e f under =
    (higher_is (line_over d e) (line_over d f) u u_in).1 (under u u_in after before)
