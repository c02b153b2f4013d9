-- Over a number that is the abscissa of no end of an edge of a plan, an even number of edges of the
-- plan lies below the edge where it runs along the direction, and an odd number where it runs
-- against it.

use Rattle.std.proofs.Common.{◌≡◌, refl, sym, ap, ap₂, ◌∙◌, ◌⊎◌, inl, inr, arith, pos}
use Rattle.std.proofs.Common.{◌<ℤ◌, Bool, true, false, not, ◌&&◌, int_le, IsTrue}
use Rattle.std.proofs.Common.{List, if◌then◌else◌}
use Rattle.std.specs.Ordering.{int_eq}
use Rattle.std.proofs.lemmas.Int.{ints}
use Rattle.std.proofs.lemmas.Bool.{and_parts}
use Rattle.std.proofs.lemmas.Bool.Decides.{Decides-int_eq}
use Rattle.theory_lists.specs.Members.{Stands}
use Rattle.theory_lists.specs.Parity.{is_odd_number}
use Rattle.theory_lists.proofs.Parity.{is_odd_number-same}
use Rattle.theory_numbers.specs.Tests.{is_positive}
use Rattle.theory_numbers.specs.Arrows.{Arrow, cross, dot, opposite}
use Rattle.theory_numbers.specs.Rationals.{IsRational}
use Rattle.theory_numbers.proofs.Vectors.Arrows.{cross-self, dot-opposite}
use Rattle.theory_numbers.proofs.Shapes.{var, negated, equal, cross_by, dot_is}
use Rattle.theory_numbers.proofs.Signs.{sign_cases, test_less, test_not_less, at_most_from}
use Rattle.theory_plane.proofs.Clearance.{value_on-IsRational}
use Rattle.sb_fraction.specs.declared.point.Point.{Point}
use Rattle.sb_fraction.specs.Spots.{Spot, IsSpot}
use Rattle.sb_fraction.specs.Edges.{Edge, span_of, turn_at, reach_at, is_on}
use Rattle.sb_fraction.specs.Crossings.{ends_over}
use Rattle.sb_fraction.specs.Lines.{flat, span_along, line_over, reaches_past}
use Rattle.theory_plans.specs.LoopEdges.{edges_of}
use Rattle.theory_plans.specs.Plans.{is_plan}
use Rattle.theory_plans.specs.Rays.{is_struck}
use Rattle.theory_parity.specs.Below.{IsWay, down_from, is_lower_at, spot_in, value_of}
use Rattle.theory_parity.proofs.Rays.BelowByValue.{below_by_value, spot_in_is}
use Rattle.theory_parity.proofs.Rays.BelowFlips.{reaching_is_line}
use Rattle.theory_parity.proofs.SolidOnTheLeft.EdgesApart.{long_edges, alone_inside, odd_inside}
use Rattle.theory_parity.proofs.Rays.InsideByBelow.{below_is_struck}
use Rattle.theory_parity.proofs.InsideByValues.{on_is_through, no_end_there}
use Rattle.theory_parity.proofs.SolidOnTheLeft.NearAnEdge.{plan_is_bent_apart, even_back}
use Rattle.theory_parity.proofs.SolidOnTheLeft.OwnPoints.{IsOwn, IsLong, own_from_on}
use Rattle.theory_parity.proofs.SolidOnTheLeft.RaysFromEdges.{right_ray, left_ray}

-- the way down sees the edge's vector as d does
down_is : (d s : Arrow) → cross (down_from d) s ≡ dot d s
down_is d s =
    equal (cross_by (down_from d) s (var d.y) (negated (var d.x)) (var s.x) (var s.y)) (dot_is d s)
    (omega arith)

span_cases : (d : Arrow) (e : Edge)
    → (span_along d e ≡ span_of e) ⊎ (span_along d e ≡ opposite (span_of e))
unfolding span_along
span_cases d e = by (is_positive (dot d (span_of e)))
  where
    by : (b : Bool)
        → ((if b then span_of e else opposite (span_of e)) ≡ span_of e)
        ⊎ ((if b then span_of e else opposite (span_of e)) ≡ opposite (span_of e))
    by true = inl refl
    by false = inr refl

module _ (d u : Arrow) (d_is : IsWay d) (u_in : IsRational u) (e : Edge)
    (reaches : reaches_past d u e ≡ true) (no_end : ends_over (flat d) u e ≡ false) where
  abbrev here : Spot
  here = spot_in d u (value_of d u e)

  value_in : IsRational (value_of d u e)
  value_in = value_on-IsRational (line_over d e) u (reaching_is_line d u e reaches) u_in

  here_is : IsSpot here
  here_is = spot_in_is d u (value_of d u e) d_is u_in value_in

  -- the point of the edge over u lies on it
  on_here : is_on here e ≡ true
  on_here =
      on_is_through d u (value_of d u e) d_is u_in value_in e no_end
      ∙ ap₂ (λ s t. s && t) reaches
      ((Decides-int_eq (cross (value_of d u e) (value_of d u e)) (pos 0)).1
      (cross-self (value_of d u e)))

  -- strictly between its ends
  own_here : IsOwn e here
  own_here =
      let parts = and_parts (int_eq (turn_at e here) (pos 0)) (int_le (reach_at e here) (pos 0))
      on_here in
      let ends = no_end_there d u (value_of d u e) d_is u_in value_in e no_end in
      own_from_on e here here_is ((Decides-int_eq (turn_at e here) (pos 0)).0 parts.0)
      (at_most_from (reach_at e here) (pos 0) parts.1) ends.a_apart ends.b_apart

  -- the edge does not stand at right angles to the direction
  slanted : dot d (span_of e) ≡ pos 0 → ⊥
  slanted none = from (span_cases d e)
    where
      from : (span_along d e ≡ span_of e) ⊎ (span_along d e ≡ opposite (span_of e)) → ⊥
      from (inl along) =
          let ahead = reaching_is_line d u e reaches in
          let same = ap (dot d) along in
          omega (arith, ints)
      from (inr against) =
          let ahead = reaching_is_line d u e reaches in
          let same = ap (dot d) against ∙ dot-opposite d (span_of e) in
          omega (arith, ints)

  lower_is_struck : (es : List Edge)
      → is_odd_number (is_lower_at d u (value_of d u e)) es
      ≡ is_odd_number (is_struck (down_from d) here) es
  lower_is_struck es =
      is_odd_number-same (is_lower_at d u (value_of d u e)) (is_struck (down_from d) here)
      (λ g.
      sym (below_by_value d u (value_of d u e) g d_is u_in value_in)
      ∙ below_is_struck d here g d_is here_is)
      es

  -- an odd number of edges lies below an edge of a plan exactly where it runs against the direction
  pub senses_alternate : (loops : List (List Point)) → IsTrue (is_plan loops)
      → Stands e (edges_of loops)
      → is_odd_number (is_lower_at d u (value_of d u e)) (edges_of loops)
      ≡ not (is_positive (dot d (span_of e)))
  senses_alternate loops plan e_in =
      lower_is_struck (edges_of loops) ∙ from (sign_cases (dot d (span_of e)))
    where
      long : IsLong e
      long = long_edges loops (plan_is_bent_apart loops plan) e e_in

      down : cross (down_from d) (span_of e) ≡ dot d (span_of e)
      down = down_is d (span_of e)

      from : ((pos 0 <ℤ dot d (span_of e)) ⊎ (dot d (span_of e) ≡ pos 0))
          ⊎ (dot d (span_of e) <ℤ pos 0)
          → is_odd_number (is_struck (down_from d) here) (edges_of loops)
          ≡ not (is_positive (dot d (span_of e)))
      from (inl (inl along)) =
          right_ray loops e here long own_here
          (alone_inside loops (plan_is_bent_apart loops plan) e e_in long here own_here)
          (down_from d) (omega (arith, ints, down, along))
          ∙ even_back loops plan e e_in here own_here
          ∙ sym (ap not (test_less (pos 0) (dot d (span_of e)) along))
      from (inl (inr none)) = absurd (slanted none)
      from (inr against) =
          left_ray loops e here long own_here
          (alone_inside loops (plan_is_bent_apart loops plan) e e_in long here own_here)
          (odd_inside loops (plan_is_bent_apart loops plan) e e_in long here own_here)
          (down_from d) (omega (arith, ints, down, against))
          ∙ ap not (even_back loops plan e e_in here own_here)
          ∙ sym
          (ap not (test_not_less (pos 0) (dot d (span_of e)) (omega (arith, ints, against))))
