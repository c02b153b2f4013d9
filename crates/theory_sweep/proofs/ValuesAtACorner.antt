-- Where the line passes a plan point: which edges lie below it, by their values.

use Rattle.std.proofs.Common.{◌≡◌, ◌⊎◌, inl, inr, sym, ap, ◌∙◌, arith, pos, subst, true, false}
use Rattle.std.proofs.Common.{◌<ℤ◌, ◌-ℤ◌, ◌*ℤ◌, refl}
use Rattle.std.proofs.lemmas.Int.{ints}
use Rattle.theory_numbers.specs.Arrows.{Arrow, cross, dot}
use Rattle.theory_numbers.specs.Rationals.{IsRational, IsBelow, IsAtMost, IsSame}
use Rattle.theory_numbers.proofs.Vectors.Arrows.{cross-turn, cross-self}
use Rattle.theory_numbers.proofs.Signs.{less_from, not_less_from, test_less}
use Rattle.theory_numbers.proofs.Products.{positive_product}
use Rattle.theory_numbers.proofs.Ring.{mul_comm}
use Rattle.theory_numbers.proofs.Vectors.ThreeTerms.{frame_cross}
use Rattle.theory_numbers.proofs.Shapes.{var, num, minus, times, equal, cross_by}
use Rattle.theory_plane.specs.Leads.{leads}
use Rattle.theory_plane.specs.Points.{ordinate_of}
use Rattle.theory_plane.specs.Sides.{clearance, clearance_at}
use Rattle.theory_plane.proofs.Clearance.{higher_is, meeting_is, clearance-self}
use Rattle.theory_plane.proofs.LeadsIsAnOrder.{up_passes, up_from, IsUp, slope-turn}
use Rattle.sb_fraction.specs.declared.point.Point.{Point}
use Rattle.sb_fraction.specs.Spots.{IsSpot, spot_at}
use Rattle.sb_fraction.specs.Edges.{Edge, seen_from, span_of, turn_at}
use Rattle.sb_fraction.specs.Lines.{in_frame, line_over, span_along}
use Rattle.theory_plans.proofs.CommonPointIsCorner.{IsAt}
use Rattle.theory_parity.specs.Below.{IsWay, spot_in, value_of}
use Rattle.theory_parity.proofs.Rays.BelowByValue.{spot_in_is}
use Rattle.theory_sweep.specs.Passing.{pass_of, at_pass, IsRising}
use Rattle.theory_sweep.specs.Open.{MeetAtOneEnd, is_under}
use Rattle.theory_sweep.proofs.PointsOfRisingEdges.{left_if_below, value_below, value_above}
use Rattle.theory_sweep.proofs.PointsOfRisingEdges.{value_there, passed_at}
use Rattle.theory_sweep.proofs.PointsOfRisingEdges.{value_is, over_place, passed_there, same_place}
use Rattle.theory_sweep.proofs.PointsOfRisingEdges.{rises}

-- the value of an edge where the line passes v
abbrev pub value_when : Arrow → Point → Edge → Arrow
value_when d v e = value_of d (at_pass (pass_of d v)) e

-- how high v lies
abbrev pub height_of : Arrow → Point → Arrow
height_of d v = ordinate_of (in_frame d (spot_at v))

-- the end of an edge lies on its line
end_a_level : (e : Edge) → turn_at e (spot_at e.a) ≡ pos 0
end_a_level e =
    equal
    (cross_by (seen_from (spot_at e.a) e.a) (seen_from (spot_at e.a) e.b)
    (minus (times (var e.a.x) (num 1)) (var e.a.x)) (minus (times (var e.a.y) (num 1)) (var e.a.y))
    (minus (times (var e.b.x) (num 1)) (var e.a.x)) (minus (times (var e.b.y) (num 1)) (var e.a.y)))
    (num 0) (omega arith)

end_b_level : (e : Edge) → turn_at e (spot_at e.b) ≡ pos 0
end_b_level e =
    equal
    (cross_by (seen_from (spot_at e.b) e.a) (seen_from (spot_at e.b) e.b)
    (minus (times (var e.a.x) (num 1)) (var e.b.x)) (minus (times (var e.a.y) (num 1)) (var e.b.y))
    (minus (times (var e.b.x) (num 1)) (var e.b.x)) (minus (times (var e.b.y) (num 1)) (var e.b.y)))
    (num 0) (omega arith)

pub level_at_a : (e : Edge) (v : Point) → e.a ≡ v → turn_at e (spot_at v) ≡ pos 0
level_at_a e v same = ap (λ p. turn_at e (spot_at p)) (sym same) ∙ end_a_level e

pub level_at_b : (e : Edge) (v : Point) → e.b ≡ v → turn_at e (spot_at v) ≡ pos 0
level_at_b e v same = ap (λ p. turn_at e (spot_at p)) (sym same) ∙ end_b_level e

module _ (d : Arrow) (d_is : IsWay d) (v : Point) (e : Edge) (rising : IsRising d e) where
  spot_is : IsSpot (spot_at v)
  spot_is = omega (arith, ints)

  pub below_when : is_under v e ≡ true → IsBelow (value_when d v e) (height_of d v)
  below_when under =
      subst (λ u. IsBelow (value_of d u e) (height_of d v)) (passed_at d v)
      (value_below d d_is e rising (spot_at v) spot_is
      (less_from (pos 0) (turn_at e (spot_at v)) under))

  pub under_if_below : IsBelow (value_when d v e) (height_of d v) → is_under v e ≡ true
  under_if_below below =
      test_less (pos 0) (turn_at e (spot_at v))
      (left_if_below d d_is e rising (spot_at v) spot_is
      (subst (λ u. IsBelow (value_of d u e) (height_of d v)) (sym (passed_at d v)) below))

  pub above_when : is_under v e ≡ false → IsAtMost (height_of d v) (value_when d v e)
  above_when over =
      subst (λ u. IsAtMost (height_of d v) (value_of d u e)) (passed_at d v)
      (value_above d d_is e rising (spot_at v) spot_is
      (not_less_from (pos 0) (turn_at e (spot_at v)) over))

  pub same_when : turn_at e (spot_at v) ≡ pos 0 → IsSame (value_when d v e) (height_of d v)
  same_when level =
      subst (λ u. IsSame (value_of d u e) (height_of d v)) (passed_at d v)
      (value_there d d_is e rising (spot_at v) spot_is level)

-- ---- two edges with one value

module _ (d : Arrow) (d_is : IsWay d) (u : Arrow) (u_in : IsRational u) (e f : Edge)
    (e_is : IsRising d e) (f_is : IsRising d f)
    (e_after : IsAtMost (at_pass (pass_of d e.a)) u) (e_before : IsAtMost u (at_pass
    (pass_of d e.b)))
    (f_after : IsAtMost (at_pass (pass_of d f.a)) u) (f_before : IsAtMost u (at_pass
    (pass_of d f.b)))
  where
    -- where the line stands over two edges with one value they meet: at one end at most
    pub meet_there : IsSame (value_of d u e) (value_of d u f) → MeetAtOneEnd e f
        → ((e.a ≡ f.a) × IsSame u (at_pass (pass_of d e.a)))
        ⊎ ((e.b ≡ f.b) × IsSame u (at_pass (pass_of d e.b)))
    meet_there same near =
        from
        (near (spot_in d u (value_of d u e)) (spot_in_is d u (value_of d u e) d_is u_in v_in)
        (over_place d d_is e e_is u (value_of d u e) u_in v_in e_after e_before
        (cross-self (value_of d u e)))
        (over_place d d_is f f_is u (value_of d u e) u_in v_in f_after f_before
        (let turn = cross-turn (value_of d u e) (value_of d u f) in omega (arith, ints))))
      where
        v_in : IsRational (value_of d u e)
        v_in = value_is d u e e_is u_in

        passed : (c : Point) → IsAt (spot_in d u (value_of d u e)) c → IsSame u (at_pass
            (pass_of d c))
        passed c at =
            same_place d u (value_of d u e) (at_pass (pass_of d c)) d_is v_in
            (passed_there d (spot_in d u (value_of d u e)) c at)

        from : ((e.a ≡ f.a) × IsAt (spot_in d u (value_of d u e)) e.a)
            ⊎ ((e.b ≡ f.b) × IsAt (spot_in d u (value_of d u e)) e.b)
            → ((e.a ≡ f.a) × IsSame u (at_pass (pass_of d e.a)))
            ⊎ ((e.b ≡ f.b) × IsSame u (at_pass (pass_of d e.b)))
        from (inl both) = inl (both.0, passed e.a both.1)
        from (inr both) = inr (both.0, passed e.b both.1)

-- ---- which of two edges leads

-- the lower one
pub leads_if_below : (d u : Arrow) (e f : Edge) → IsRational u
    → IsBelow (value_of d u e) (value_of d u f) → leads u (line_over d e) (line_over d f) ≡ true
leads_if_below d u e f u_in below =
    up_passes (clearance_at (line_over d e) (line_over d f) u)
    (clearance (line_over d e) (line_over d f)).y
    (inl ((higher_is (line_over d e) (line_over d f) u u_in).0 below))

-- never an edge itself
pub leads_other : (d u : Arrow) (e f : Edge) → leads u (line_over d e) (line_over d f) ≡ true
    → e ≡ f → ⊥
leads_other d u e f leading one =
    from (up_from (clearance_at (line_over d e) (line_over d e) u)
    (clearance (line_over d e) (line_over d e)).y
    (subst (λ g. leads u (line_over d e) (line_over d g) ≡ true) (sym one) leading))
  where
    from : IsUp (clearance_at (line_over d e) (line_over d e) u)
        (clearance (line_over d e) (line_over d e)).y → ⊥
    from (inl above) = let none = clearance-self (line_over d e) u in omega (arith, ints)
    from (inr rising) =
        let turn = slope-turn (line_over d e) (line_over d e) in
        let up = rising.1 in
        omega (arith, ints)

-- the slope of the clearance, by the vectors
slope_is : (d : Arrow) (e f : Edge) → IsRising d e → IsRising d f
    → (clearance (line_over d e) (line_over d f)).y
    ≡ (cross d (span_of f) *ℤ dot d (span_of e)) -ℤ (cross d (span_of e) *ℤ dot d (span_of f))
unfolding clearance span_along
slope_is d e f e_is f_is =
    rw (
      test_less (pos 0) (dot d (span_of e)) (rises d e e_is),
      test_less (pos 0) (dot d (span_of f)) (rises d f f_is),
    ) refl

-- of two edges through one point the one that the other is turned left from
pub leads_if_left : (d : Arrow) → IsWay d → (u : Arrow) → IsRational u → (e f : Edge) → IsRising d e
    → IsRising d f → IsSame (value_of d u e) (value_of d u f)
    → pos 0 <ℤ cross (span_of e) (span_of f) → leads u (line_over d e) (line_over d f) ≡ true
leads_if_left d d_is u u_in e f e_is f_is same left =
    up_passes (clearance_at (line_over d e) (line_over d f) u)
    (clearance (line_over d e) (line_over d f)).y
    (inr (
      (meeting_is (line_over d e)
          (line_over d f) u u_in).0 same,
      slope d d_is e f e_is f_is left,
    ))
  where
    slope : (d : Arrow) → IsWay d → (e f : Edge) → IsRising d e → IsRising d f
        → pos 0 <ℤ cross (span_of e) (span_of f)
        → pos 0 <ℤ (clearance (line_over d e) (line_over d f)).y
    slope d d_is e f e_is f_is left =
        let whole = slope_is d e f e_is f_is in
        let frame = frame_cross d (span_of e) (span_of f) in
        let up = positive_product (dot d d) (cross (span_of e) (span_of f)) d_is left in
        let swap = mul_comm (cross d (span_of f)) (dot d (span_of e)) in
        omega (arith, ints)
