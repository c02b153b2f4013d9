-- The edges that begin at a corner, by their numbers, are all that do, from below.

use Rattle.std.proofs.Common.{◌≡◌, ◌⊎◌, inl, inr, refl, sym, ap, ap₂, ◌∙◌, arith, ℕ, pos, neg_ℤ}
use Rattle.std.proofs.Common.{◌<ℤ◌, Bool, true, false, List, [], ◌∷◌, map, Some}
use Rattle.std.proofs.Common.{subst}
use Rattle.std.specs.List.{list_all, slice_get}
use Rattle.std.proofs.lemmas.Int.{ints}
use Rattle.std.proofs.lemmas.Bool.{and_parts, false≢true}
use Rattle.theory_lists.specs.Members.{Stands}
use Rattle.theory_lists.proofs.Members.{all_stands}
use Rattle.theory_numbers.specs.Arrows.{cross}
use Rattle.theory_numbers.proofs.Vectors.Arrows.{cross-turn}
use Rattle.theory_numbers.proofs.Shapes.{var, num, minus, negated, times, equal, cross_by}
use Rattle.theory_numbers.proofs.Signs.{less_from, not_less_from, sign_cases}
use Rattle.sb_fraction.specs.declared.point.Point.{Point}
use Rattle.sb_fraction.specs.Edges.{Edge, edge, span_of, seen_from, turn_at}
use Rattle.sb_fraction.specs.Plane.{is_plan_point}
use Rattle.sb_fraction.specs.Spots.{spot_at}
use Rattle.theory_plans.specs.Loops.{bend, is_bent_loop, comes_before}
use Rattle.theory_plans.proofs.Edges.EdgesOfPlans.{bent_is_not_0}
use Rattle.theory_sweep.specs.Corners.{Corner, corners_of, ArePassedApart}
use Rattle.theory_sweep.specs.Open.{IsEdgeOf, AreBegun, is_under}
use Rattle.theory_sweep.specs.Passing.{sweep_way, IsRising}
use Rattle.theory_sweep.proofs.EdgesAtACorner.{begins_at}
use Rattle.theory_sweep.proofs.EdgesByCorners.{corner_has, corners_are_bent, IsBentAt}
use Rattle.theory_sweep.proofs.PassedInOrder.{passed_first, before_if_first}
use Rattle.sb_knots.specs.Steps.{edge_at, ids_of, begun_at, begun_by, is_corner_in_range}
use Rattle.sb_knots.proofs.BegunEdges.{edge_to_before, edge_to_after}

-- ---- two edges from one point

turn_of_spans : (a b c : Point)
    → turn_at (edge a b) (spot_at c) ≡ cross (span_of (edge a b)) (span_of (edge a c))
turn_of_spans a b c =
    equal
    (cross_by (seen_from (spot_at c) a) (seen_from (spot_at c) b)
    (minus (times (var a.x) (num 1)) (var c.x)) (minus (times (var a.y) (num 1)) (var c.y))
    (minus (times (var b.x) (num 1)) (var c.x)) (minus (times (var b.y) (num 1)) (var c.y)))
    (cross_by (span_of (edge a b)) (span_of (edge a c))
    (minus (var b.x) (var a.x)) (minus (var b.y) (var a.y))
    (minus (var c.x) (var a.x)) (minus (var c.y) (var a.y)))
    (omega arith)

bend_of_spans : (b a c : Point)
    → bend b a c ≡ neg_ℤ (cross (span_of (edge a b)) (span_of (edge a c)))
bend_of_spans b a c =
    equal
    (minus (times (minus (var a.x) (var b.x)) (minus (var c.y) (var a.y)))
    (times (minus (var a.y) (var b.y)) (minus (var c.x) (var a.x))))
    (negated
    (cross_by (span_of (edge a b)) (span_of (edge a c))
    (minus (var b.x) (var a.x)) (minus (var b.y) (var a.y))
    (minus (var c.x) (var a.x)) (minus (var c.y) (var a.y))))
    (omega arith)

-- the edges in a list, by the three tests
abbrev begun_edges : Bool → Bool → Bool → Edge → Edge → List Edge
begun_edges true true true up on = up ∷ on ∷ []
begun_edges true true false up on = on ∷ up ∷ []
begun_edges true false lower up on = up ∷ []
begun_edges false true lower up on = on ∷ []
begun_edges false false lower up on = []

module _ (loops : List (List Point)) (apart : ArePassedApart sweep_way loops)
    (bent : list_all is_bent_loop loops ≡ true) (c : Corner) (c_in : Stands c (corners_of loops))
    (in_range : is_corner_in_range c ≡ true) where
  abbrev up : Edge
  up = edge c.at c.before

  abbrev on : Edge
  on = edge c.at c.after

  before_in : is_plan_point c.before ≡ true
  before_in = (and_parts (is_plan_point c.before) _ in_range).0

  at_in : is_plan_point c.at ≡ true
  at_in =
      (and_parts (is_plan_point c.at) (is_plan_point c.after)
      (and_parts (is_plan_point c.before) _ in_range).1).0

  after_in : is_plan_point c.after ≡ true
  after_in =
      (and_parts (is_plan_point c.at) (is_plan_point c.after)
      (and_parts (is_plan_point c.before) _ in_range).1).1

  up_is : comes_before c.at c.before ≡ true → IsEdgeOf sweep_way loops up
  up_is begins = record {
    rising = passed_first c.at c.before at_in before_in begins;
    stands = inr (corner_has loops c c_in).comes;
  }

  on_is : comes_before c.at c.after ≡ true → IsEdgeOf sweep_way loops on
  on_is begins = record {
    rising = passed_first c.at c.after at_in after_in begins;
    stands = inl (corner_has loops c c_in).goes;
  }

  left_if_lower : is_under c.after up ≡ true → pos 0 <ℤ cross (span_of up) (span_of on)
  left_if_lower lower =
      subst (λ n. pos 0 <ℤ n) (turn_of_spans c.at c.before c.after)
      (less_from (pos 0) (turn_at up (spot_at c.after)) lower)

  left_if_higher : is_under c.after up ≡ false → pos 0 <ℤ cross (span_of on) (span_of up)
  left_if_higher higher =
      from (sign_cases (cross (span_of up) (span_of on)))
    where
      from : ((pos 0 <ℤ cross (span_of up) (span_of on)) ⊎ (cross (span_of up) (span_of on)
          ≡ pos 0))
          ⊎ (cross (span_of up) (span_of on) <ℤ pos 0) → pos 0 <ℤ cross (span_of on) (span_of up)
      from (inl (inl left)) =
          let low = not_less_from (pos 0) (turn_at up (spot_at c.after)) higher in
          let same = turn_of_spans c.at c.before c.after in
          absurd (omega (arith, ints))
      from (inl (inr none)) =
          absurd
          (bent_is_not_0 (bend c.before c.at c.after)
          (all_stands IsBentAt c (corners_of loops) (corners_are_bent loops bent) c_in)
          (bend_of_spans c.before c.at c.after ∙ ap neg_ℤ none))
      from (inr right) =
          let turn = cross-turn (span_of up) (span_of on) in omega (arith, ints)

  -- an edge that begins there is one of the two
  which : (e : Edge) → IsEdgeOf sweep_way loops e → e.a ≡ c.at
      → ((e ≡ on) × (comes_before c.at c.after ≡ true))
      ⊎ ((e ≡ up) × (comes_before c.at c.before ≡ true))
  which e e_is begins = from (begins_at sweep_way loops apart e e_is c c_in begins)
    where
      from : (e ≡ on) ⊎ (e ≡ up)
          → ((e ≡ on) × (comes_before c.at c.after ≡ true))
          ⊎ ((e ≡ up) × (comes_before c.at c.before ≡ true))
      from (inl one) =
          inl (
            one,
            before_if_first c.at c.after at_in after_in (subst
                (IsRising sweep_way) one e_is.rising),
          )
      from (inr one) =
          inr (
            one,
            before_if_first c.at c.before at_in before_in (subst
                (IsRising sweep_way) one e_is.rising),
          )

  by_tests : (before after lower : Bool) → comes_before c.at c.before ≡ before
      → comes_before c.at c.after ≡ after → is_under c.after up ≡ lower
      → AreBegun sweep_way loops c.at (begun_edges before after lower up on)
  by_tests true true true b a l = record {
    there = λ e e_in. there e e_in;
    each = λ e e_is begins. each e (which e e_is begins);
    sorted = ((left_if_lower l, tt), (tt, tt));
  }
    where
      there : (e : Edge) → Stands e (up ∷ on ∷ []) → IsEdgeOf sweep_way loops e × (e.a ≡ c.at)
      there e (inl one) =
          subst (λ g. IsEdgeOf sweep_way loops g × (g.a ≡ c.at)) (sym one) (up_is b, refl)
      there e (inr (inl one)) =
          subst (λ g. IsEdgeOf sweep_way loops g × (g.a ≡ c.at)) (sym one) (on_is a, refl)
      there e (inr (inr none)) = absurd none

      each : (e : Edge) → ((e ≡ on) × (comes_before c.at c.after ≡ true))
          ⊎ ((e ≡ up) × (comes_before c.at c.before ≡ true)) → Stands e (up ∷ on ∷ [])
      each e (inl is) = inr (inl is.0)
      each e (inr is) = inl is.0
  by_tests true true false b a l = record {
    there = λ e e_in. there e e_in;
    each = λ e e_is begins. each e (which e e_is begins);
    sorted = ((left_if_higher l, tt), (tt, tt));
  }
    where
      there : (e : Edge) → Stands e (on ∷ up ∷ []) → IsEdgeOf sweep_way loops e × (e.a ≡ c.at)
      there e (inl one) =
          subst (λ g. IsEdgeOf sweep_way loops g × (g.a ≡ c.at)) (sym one) (on_is a, refl)
      there e (inr (inl one)) =
          subst (λ g. IsEdgeOf sweep_way loops g × (g.a ≡ c.at)) (sym one) (up_is b, refl)
      there e (inr (inr none)) = absurd none

      each : (e : Edge) → ((e ≡ on) × (comes_before c.at c.after ≡ true))
          ⊎ ((e ≡ up) × (comes_before c.at c.before ≡ true)) → Stands e (on ∷ up ∷ [])
      each e (inl is) = inl is.0
      each e (inr is) = inr (inl is.0)
  by_tests true false lower b a l = record {
    there = λ e e_in. there e e_in;
    each = λ e e_is begins. each e (which e e_is begins);
    sorted = (tt, tt);
  }
    where
      there : (e : Edge) → Stands e (up ∷ []) → IsEdgeOf sweep_way loops e × (e.a ≡ c.at)
      there e (inl one) =
          subst (λ g. IsEdgeOf sweep_way loops g × (g.a ≡ c.at)) (sym one) (up_is b, refl)
      there e (inr none) = absurd none

      each : (e : Edge) → ((e ≡ on) × (comes_before c.at c.after ≡ true))
          ⊎ ((e ≡ up) × (comes_before c.at c.before ≡ true)) → Stands e (up ∷ [])
      each e (inl is) = absurd (false≢true (sym a ∙ is.1))
      each e (inr is) = inl is.0
  by_tests false true lower b a l = record {
    there = λ e e_in. there e e_in;
    each = λ e e_is begins. each e (which e e_is begins);
    sorted = (tt, tt);
  }
    where
      there : (e : Edge) → Stands e (on ∷ []) → IsEdgeOf sweep_way loops e × (e.a ≡ c.at)
      there e (inl one) =
          subst (λ g. IsEdgeOf sweep_way loops g × (g.a ≡ c.at)) (sym one) (on_is a, refl)
      there e (inr none) = absurd none

      each : (e : Edge) → ((e ≡ on) × (comes_before c.at c.after ≡ true))
          ⊎ ((e ≡ up) × (comes_before c.at c.before ≡ true)) → Stands e (on ∷ [])
      each e (inl is) = inl is.0
      each e (inr is) = absurd (false≢true (sym b ∙ is.1))
  by_tests false false lower b a l = record {
    there = λ e e_in. absurd e_in;
    each = λ e e_is begins. each e (which e e_is begins);
    sorted = tt;
  }
    where
      each : (e : Edge) → ((e ≡ on) × (comes_before c.at c.after ≡ true))
          ⊎ ((e ≡ up) × (comes_before c.at c.before ≡ true)) → Stands e []
      each e (inl is) = false≢true (sym a ∙ is.1)
      each e (inr is) = false≢true (sym b ∙ is.1)

  -- so it is with the numbers
  pub begun_are : (corners : List Corner) (k : ℕ) → slice_get corners k ≡ Some c
      → AreBegun sweep_way loops c.at (map (edge_at corners) (ids_of (begun_at c k)))
  begun_are corners k at =
      subst (AreBegun sweep_way loops c.at)
      (sym (images (comes_before c.at c.before) (comes_before c.at c.after) (is_under c.after up)))
      (by_tests (comes_before c.at c.before) (comes_before c.at c.after) (is_under c.after up) refl
      refl refl)
    where
      images : (before after lower : Bool)
          → map (edge_at corners) (ids_of (begun_by before after lower k))
          ≡ begun_edges before after lower up on
      images true true true =
          ap₂ (λ e f. e ∷ f ∷ []) (edge_to_before corners k c at) (edge_to_after corners k c at)
      images true true false =
          ap₂ (λ e f. e ∷ f ∷ []) (edge_to_after corners k c at) (edge_to_before corners k c at)
      images true false lower = ap (λ e. e ∷ []) (edge_to_before corners k c at)
      images false true lower = ap (λ e. e ∷ []) (edge_to_after corners k c at)
      images false false lower = refl
