-- Edges over which the line stands keep their order while neighbours meet at one end at most: up to
-- the first end of one of them each two are in order, and they have one value only where both end.

use Rattle.std.proofs.Common.{◌≡◌, sym, ap, ◌∙◌, ◌⊎◌, inl, inr, arith, ℤ, pos}
use Rattle.std.proofs.Common.{◌≤ℤ◌, ◌*ℤ◌, true}
use Rattle.std.proofs.lemmas.Int.{ints}
use Rattle.theory_numbers.specs.Arrows.{Arrow}
use Rattle.theory_numbers.specs.Rationals.{IsRational, IsBelow, IsAtMost, IsSame}
use Rattle.theory_numbers.proofs.Vectors.Arrows.{cross-turn, cross-self}
use Rattle.theory_numbers.proofs.Products.{zero_of_positive}
use Rattle.theory_numbers.proofs.Ring.{mul-zero}
use Rattle.theory_numbers.proofs.Fractions.Rationals.{at_most_trans, at_most_below_trans}
use Rattle.theory_numbers.proofs.Fractions.Rationals.{same_trans, same_sym, number_cases, at_most_from_below}
use Rattle.theory_numbers.proofs.Fractions.Rationals.{same_from_at_most, below_clash, value_at_same}
use Rattle.theory_plane.specs.Sides.{clearance, clearance_at}
use Rattle.theory_plane.specs.Leads.{leads}
use Rattle.theory_plane.proofs.Clearance.{higher_is, meeting_is}
use Rattle.theory_plane.proofs.LeadsUntilMeeting.{order_after}
use Rattle.sb_fraction.specs.declared.point.Point.{Point}
use Rattle.sb_fraction.specs.Spots.{Spot, IsSpot}
use Rattle.sb_fraction.specs.Edges.{Edge, is_on}
use Rattle.sb_fraction.specs.Lines.{line_over}
use Rattle.theory_plans.proofs.CommonPointIsCorner.{IsAt}
use Rattle.theory_parity.specs.Below.{IsWay, spot_in, value_of}
use Rattle.theory_parity.proofs.Rays.BelowByValue.{spot_in_is}
use Rattle.theory_sweep.specs.Passing.{pass_of, at_pass, IsRising}
use Rattle.theory_sweep.specs.Open.{MeetAtOneEnd}
use Rattle.theory_sweep.proofs.PointsOfRisingEdges.{value_is, over_place, passed_there, same_place}
use Rattle.theory_sweep.proofs.PointsOfRisingEdges.{cross_whole}

-- a whole number is a place of the line
pub whole_is : (k : ℤ) → IsRational (at_pass k)
whole_is k = omega (arith, ints)

-- the order of whole numbers
pub whole_at_most : (a b : ℤ) → a ≤ℤ b → IsAtMost (at_pass a) (at_pass b)
whole_at_most a b less = let whole = cross_whole a b in omega (arith, ints)

-- of two edges, e has at most the value of f at u; and the same only where both end there
pub record IsInOrderAt (d u : Arrow) (e f : Edge) : Type 0 where
  pub order : IsAtMost (value_of d u e) (value_of d u f)
  pub same : IsSame (value_of d u e) (value_of d u f)
      → (e.b ≡ f.b) × IsSame u (at_pass (pass_of d e.b))

-- ---- two edges

module _ (d : Arrow) (d_is : IsWay d) (k : ℤ) (u : Arrow) (u_in : IsRational u)
    (after : IsBelow (at_pass k) u) where
  -- the line stands over the edge at u, too
  pub record IsOver (e : Edge) : Type 0 where
    pub rising : IsRising d e
    pub begun : pass_of d e.a ≤ℤ k
    pub reaches : IsAtMost u (at_pass (pass_of d e.b))

  -- two that meet at one end at most meet after k, and up to u, only where both end
  meet_late : (e f : Edge) → IsOver e → IsOver f → MeetAtOneEnd e f → (y : Arrow) → IsRational y
      → IsBelow (at_pass k) y → IsAtMost y u → IsSame (value_of d y e) (value_of d y f)
      → (e.b ≡ f.b) × IsSame y (at_pass (pass_of d e.b))
  meet_late e f e_is f_is near y y_in later within same =
      from (near p p_is on_e on_f)
    where
      v : Arrow
      v = value_of d y e

      v_in : IsRational (value_of d y e)
      v_in = value_is d y e e_is.rising y_in

      p : Spot
      p = spot_in d y (value_of d y e)

      p_is : IsSpot (spot_in d y (value_of d y e))
      p_is = spot_in_is d y (value_of d y e) d_is y_in v_in

      begun : (g : Edge) → IsOver g → IsAtMost (at_pass (pass_of d g.a)) y
      begun g g_is =
          at_most_from_below (at_pass (pass_of d g.a)) y
          (at_most_below_trans (at_pass (pass_of d g.a)) (at_pass k) y (whole_is (pass_of d g.a))
          (whole_is k) y_in (whole_at_most (pass_of d g.a) k g_is.begun) later)

      ends : (g : Edge) → IsOver g → IsAtMost y (at_pass (pass_of d g.b))
      ends g g_is =
          at_most_trans y u (at_pass (pass_of d g.b)) y_in u_in (whole_is (pass_of d g.b)) within
          g_is.reaches

      on_e : is_on (spot_in d y (value_of d y e)) e ≡ true
      on_e =
          over_place d d_is e e_is.rising y (value_of d y e) y_in v_in (begun e e_is) (ends e e_is)
          (cross-self (value_of d y e))

      on_f : is_on (spot_in d y (value_of d y e)) f ≡ true
      on_f =
          over_place d d_is f f_is.rising y (value_of d y e) y_in v_in (begun f f_is) (ends f f_is)
          (same_sym (value_of d y e) (value_of d y f) same)

      passed : (c : Point) → IsAt (spot_in d y (value_of d y e)) c → IsSame y (at_pass
          (pass_of d c))
      passed c at =
          same_place d y (value_of d y e) (at_pass (pass_of d c)) d_is v_in
          (passed_there d (spot_in d y (value_of d y e)) c at)

      from : ((e.a ≡ f.a) × IsAt (spot_in d y (value_of d y e)) e.a)
          ⊎ ((e.b ≡ f.b) × IsAt (spot_in d y (value_of d y e)) e.b)
          → (e.b ≡ f.b) × IsSame y (at_pass (pass_of d e.b))
      from (inr both) = (both.0, passed e.b both.1)
      from (inl both) =
          let same_a = passed e.a both.1 in
          let turn = cross-turn y (at_pass (pass_of d e.a)) in
          absurd
          (below_clash (at_pass k) y later
          (at_most_trans y (at_pass (pass_of d e.a)) (at_pass k) y_in (whole_is (pass_of d e.a))
          (whole_is k) (omega (arith, ints))
          (whole_at_most (pass_of d e.a) k e_is.begun)))

  -- so they keep their order up to u
  pub two_keep_order : (e f : Edge) → IsOver e → IsOver f → MeetAtOneEnd e f
      → leads (at_pass k) (line_over d e) (line_over d f) ≡ true → IsInOrderAt d u e f
  two_keep_order e f e_is f_is near leading =
      from (number_cases (value_of d u e) (value_of d u f))
    where
      nothing_before : IsBelow (value_of d u f) (value_of d u e) → (y : Arrow) → IsRational y
          → IsBelow (at_pass k) y → IsAtMost y u
          → clearance_at (line_over d e) (line_over d f) y ≡ pos 0 → ⊥
      nothing_before above y y_in later within zero =
          let same = (meeting_is (line_over d e) (line_over d f) y y_in).1 zero in
          let late = meet_late e f e_is f_is near y y_in later within same in
          let turn = cross-turn y (at_pass (pass_of d e.b)) in
          let back : IsAtMost u y =
          at_most_trans u (at_pass (pass_of d e.b)) y u_in (whole_is (pass_of d e.b)) y_in
          e_is.reaches (let is = late.1 in omega (arith, ints)) in
          let one = same_from_at_most y u within back in
          let whole = value_at_same (clearance (line_over d e) (line_over d f)) y u one in
          let none : y.x *ℤ clearance_at (line_over d e) (line_over d f) u ≡ pos 0 =
          sym whole ∙ ap (λ n. u.x *ℤ n) zero ∙ mul-zero u.x in
          let at_u = (meeting_is (line_over d e) (line_over d f) u u_in).1
          (zero_of_positive y.x (clearance_at (line_over d e) (line_over d f) u) y_in none) in
          let turned = cross-turn (value_of d u e) (value_of d u f) in
          omega (arith, ints)

      from : (IsBelow (value_of d u e) (value_of d u f) ⊎ IsSame (value_of d u e) (value_of d u f))
          ⊎ IsBelow (value_of d u f) (value_of d u e)
          → IsInOrderAt d u e f
      from (inl (inl below)) = record {
        order = at_most_from_below (value_of d u e) (value_of d u f) below;
        same = λ one. absurd (omega (arith, ints));
      }
      from (inl (inr one)) = record {
        order = omega (arith, ints);
        same = λ also. meet_late e f e_is f_is near u u_in after (let self = cross-self u in omega
            (arith, ints)) one;
      }
      from (inr above) =
          let up = order_after (at_pass k) u (line_over d e) (line_over d f) (whole_is k) u_in after
          leading (nothing_before above) in
          let below = (higher_is (line_over d e) (line_over d f) u u_in).1 up in
          absurd (below_clash (value_of d u f) (value_of d u e) above
          (at_most_from_below (value_of d u e) (value_of d u f) below))

  -- ---- three edges

  pub in_order_trans : (e f g : Edge) → IsRising d e → IsRising d f → IsRising d g
      → IsInOrderAt d u e f → IsInOrderAt d u f g → IsInOrderAt d u e g
  in_order_trans e f g e_is f_is g_is low high = record {
    order = at_most_trans ve vf vg (value_is d u e e_is u_in) (value_is d u f f_is u_in)
        (value_is d u g g_is u_in) low.order high.order;
    same = λ one. both one;
  }
    where
      ve : Arrow
      ve = value_of d u e

      vf : Arrow
      vf = value_of d u f

      vg : Arrow
      vg = value_of d u g

      both : IsSame (value_of d u e) (value_of d u g)
          → (e.b ≡ g.b) × IsSame u (at_pass (pass_of d e.b))
      both one =
          let e_in = value_is d u e e_is u_in in
          let f_in = value_is d u f f_is u_in in
          let g_in = value_is d u g g_is u_in in
          let turn = cross-turn (value_of d u e) (value_of d u g) in
          let back = at_most_trans (value_of d u f) (value_of d u g) (value_of d u e) f_in g_in e_in
          high.order (omega (arith, ints)) in
          let same = same_from_at_most (value_of d u e) (value_of d u f) low.order back in
          let first = low.same same in
          let second = high.same
          (same_trans (value_of d u f) (value_of d u e) (value_of d u g) e_in
          (same_sym (value_of d u e) (value_of d u f) same) one) in
          (first.0 ∙ second.0, first.1)
