-- On a line u = constant that holds no corner of a plan at most one edge has each value. So a point
-- of it lies inside the plan exactly where an odd number of edges have a lesser value, and an odd
-- number at most its value.

use Rattle.std.proofs.Common.{◌≡◌, refl, sym, ap, ap₂, ◌∙◌, ◌⊎◌, inl, inr, arith, pos, ◌*ℤ◌, ◌<ℤ◌}
use Rattle.std.proofs.Common.{ℤ, Bool, true, false, not, ◌&&◌, int_le, int_lt, IsTrue, List}
use Rattle.std.proofs.Common.{[], ◌∷◌}
use Rattle.std.specs.Ordering.{int_eq}
use Rattle.std.specs.List.{AllByRecursion, list_any}
use Rattle.std.proofs.lemmas.Int.{ints}
use Rattle.std.proofs.lemmas.Bool.{or_parts, false≢true}
use Rattle.std.proofs.lemmas.Bool.Decides.{Decides-int_eq}
use Rattle.theory_lists.specs.OneOf.{AtMostOne}
use Rattle.theory_lists.specs.Parity.{differ, is_odd_number}
use Rattle.theory_lists.proofs.Members.{all_follow, two_follow, all_stands}
use Rattle.theory_lists.proofs.Blocks.{one_of_at_most}
use Rattle.theory_lists.proofs.Parity.{is_odd_number-same, is_odd_number-differ}
use Rattle.theory_lists.proofs.Parity.{odd_is_any, differ-opposite, opposite_from_differ}
use Rattle.theory_numbers.specs.Tests.{is_positive}
use Rattle.theory_numbers.specs.Arrows.{Arrow, cross, dot, scale}
use Rattle.theory_numbers.specs.Rationals.{IsRational, IsBelow, rational}
use Rattle.theory_numbers.proofs.Vectors.Arrows.{scale-cross}
use Rattle.theory_numbers.proofs.Vectors.Lengths.{long_if_crossed, opposed, parted}
use Rattle.theory_numbers.proofs.Products.{zero_of_positive}
use Rattle.theory_numbers.proofs.Signs.{sign_cases, same_tests, test_less, test_not_less, test_at_most}
use Rattle.theory_numbers.proofs.Signs.{test_not_at_most, test_not_equal, at_most_from}
use Rattle.sb_fraction.specs.declared.point.Point.{Point}
use Rattle.sb_fraction.specs.Spots.{Spot, IsSpot}
use Rattle.sb_fraction.specs.Edges.{Edge, seen_from, turn_at, reach_at, is_on}
use Rattle.sb_fraction.specs.Crossings.{abscissa_at, ends_over}
use Rattle.sb_fraction.specs.Lines.{flat, line_over, reaches_past}
use Rattle.theory_plans.specs.LoopEdges.{edges_of}
use Rattle.theory_plans.specs.Inside.{is_in_plan}
use Rattle.theory_plans.specs.Plans.{is_plan}
use Rattle.theory_plans.specs.Rays.{is_left_of}
use Rattle.theory_parity.specs.Below.{IsWay, down_from, is_below_at, spot_in, value_of}
use Rattle.theory_parity.specs.Below.{is_lower_at, is_up_to_at, is_through, IsFree}
use Rattle.theory_parity.proofs.Rays.InsideByBelow.{inside_by_below, beyond_by_turn, beyond_is_left}
use Rattle.theory_parity.proofs.OnLineOver.{on_line_over}
use Rattle.theory_parity.proofs.Rays.BelowByValue.{below_by_value, spot_in_is, abscissa_of_spot, on_spot}
use Rattle.theory_parity.proofs.Rays.BelowByValue.{reaches_past_spot}
use Rattle.theory_parity.proofs.Rays.BelowFlips.{below_flips}
use Rattle.theory_parity.proofs.Regions.NoEdgeInside.{IsNoEnd}
use Rattle.theory_parity.proofs.Regions.OneEdgeThroughAPoint.{at_most_one_passes}

-- ---- one edge

on_table : (on within reaches : Bool) → (on ≡ true → within ≡ reaches)
    → (on && within) ≡ (reaches && on)
on_table true true true same = refl
on_table true false false same = refl
on_table true true false same = absurd (false≢true (sym (same refl)))
on_table true false true same = absurd (false≢true (same refl))
on_table false within true same = refl
on_table false within false same = refl

module _ (d u v : Arrow) (d_is : IsWay d) (u_in : IsRational u) (v_in : IsRational v) (e : Edge)
    (no_end : ends_over (flat d) u e ≡ false) where
  p : Spot
  p = spot_in d u v

  p_is : IsSpot p
  unfolding p
  p_is = spot_in_is d u v d_is u_in v_in

  apart_at : (a : Point)
      → int_eq (cross u (rational (abscissa_at a (flat d)) (pos 1))) (pos 0) ≡ false
      → cross (down_from d) (seen_from p a) ≡ pos 0 → ⊥
  unfolding p
  apart_at a apart none =
      let at = rational (abscissa_at a (flat d)) (pos 1) in
      let far : dot d d *ℤ (v.x *ℤ cross u at) ≡ pos 0 =
      sym (scale-cross (dot d d) (scale v.x u) at ∙ ap (λ t. dot d d *ℤ t) (scale-cross v.x u at))
      ∙ ap (λ t. cross t at) (sym (abscissa_of_spot d u v))
      ∙ beyond_by_turn d (spot_in d u v) a ∙ none
      in
      false≢true
      (sym apart
      ∙ (Decides-int_eq (cross u at) (pos 0)).1
      (zero_of_positive v.x (cross u at) v_in
      (zero_of_positive (dot d d) (v.x *ℤ cross u at) d_is far)))

  ends : (int_eq (cross u (rational (abscissa_at e.a (flat d)) (pos 1))) (pos 0) ≡ false)
      × (int_eq (cross u (rational (abscissa_at e.b (flat d)) (pos 1))) (pos 0) ≡ false)
  ends =
      or_parts (int_eq (cross u (rational (abscissa_at e.a (flat d)) (pos 1))) (pos 0))
      (int_eq (cross u (rational (abscissa_at e.b (flat d)) (pos 1))) (pos 0)) no_end

  -- the point is no end of the edge
  pub no_end_there : IsNoEnd (spot_in d u v) e
  unfolding p
  no_end_there = record {
    a_apart =
        (long_if_crossed (down_from d) (seen_from (spot_in d u v) e.a) (apart_at e.a ends.0)).1;
    b_apart =
        (long_if_crossed (down_from d) (seen_from (spot_in d u v) e.b) (apart_at e.b ends.1)).1;
  }

  past : reaches_past d u e
      ≡ differ (is_left_of (down_from d) p e.a) (is_left_of (down_from d) p e.b)
  unfolding p
  past =
      sym (reaches_past_spot d u v e d_is v_in)
      ∙ ap₂ differ (beyond_is_left d (spot_in d u v) e.a) (beyond_is_left d (spot_in d u v) e.b)

  within : int_eq (turn_at e p) (pos 0) ≡ true → int_le (reach_at e p) (pos 0) ≡ reaches_past d u e
  within on =
      let level = (Decides-int_eq (turn_at e p) (pos 0)).0 on in
      same_tests (int_le (reach_at e p) (pos 0))
      (differ (is_left_of (down_from d) p e.a) (is_left_of (down_from d) p e.b))
      (λ near.
      differ-opposite (is_left_of (down_from d) p e.a) (is_left_of (down_from d) p e.b)
      (parted (down_from d) (seen_from p e.a) (seen_from p e.b) level
      (at_most_from (reach_at e p) (pos 0) near) (apart_at e.a ends.0) (apart_at e.b ends.1)))
      (λ sides.
      test_at_most (reach_at e p) (pos 0)
      (opposed (down_from d) (seen_from p e.a) (seen_from p e.b)
      (is_left_of (down_from d) p e.a) (is_left_of (down_from d) p e.b) refl refl
      (opposite_from_differ (is_left_of (down_from d) p e.a) (is_left_of (down_from d) p e.b) sides)
      level))
      ∙ sym past

  -- it lies on the edge exactly where the edge passes through (u, v)
  pub on_is_through : is_on (spot_in d u v) e ≡ is_through d u v e
  unfolding p
  on_is_through =
      on_table (int_eq (turn_at e (spot_in d u v)) (pos 0))
      (int_le (reach_at e (spot_in d u v)) (pos 0)) (reaches_past d u e) within
      ∙ ap (λ t. reaches_past d u e && t)
      (sym (on_line_over d (spot_in d u v) e d_is (spot_in_is d u v d_is u_in v_in))
      ∙ on_spot d u v (line_over d e) d_is)

-- at most, less and equal
at_most_by_cases : (n : ℤ) → int_le (pos 0) n ≡ differ (int_lt (pos 0) n) (int_eq n (pos 0))
at_most_by_cases n = from (sign_cases n)
  where
    from : ((pos 0 <ℤ n) ⊎ (n ≡ pos 0)) ⊎ (n <ℤ pos 0)
        → int_le (pos 0) n ≡ differ (int_lt (pos 0) n) (int_eq n (pos 0))
    from (inl (inl above)) =
        test_at_most (pos 0) n (omega (arith, ints))
        ∙ sym (ap₂ differ (test_less (pos 0) n above)
        (test_not_equal n (pos 0) (λ none. omega (arith, ints))))
    from (inl (inr none)) =
        test_at_most (pos 0) n (omega (arith, ints))
        ∙ sym (ap₂ differ (test_not_less (pos 0) n (omega (arith, ints)))
        ((Decides-int_eq n (pos 0)).1 none))
    from (inr below) =
        test_not_at_most (pos 0) n below
        ∙ sym (ap₂ differ (test_not_less (pos 0) n (omega (arith, ints)))
        (test_not_equal n (pos 0) (λ none. omega (arith, ints))))

and-differ : (a b c : Bool) → (a && differ b c) ≡ differ (a && b) (a && c)
and-differ true b c = refl
and-differ false b c = refl

-- an edge has at most this value where it has a lesser one or passes there, not both
pub up_to_by_cases : (d u v : Arrow) (e : Edge)
    → is_up_to_at d u v e ≡ differ (is_lower_at d u v e) (is_through d u v e)
up_to_by_cases d u v e =
    ap (λ t. reaches_past d u e && t) (at_most_by_cases (cross (value_of d u e) v))
    ∙ and-differ (reaches_past d u e) (is_positive (cross (value_of d u e) v))
    (int_eq (cross (value_of d u e) v) (pos 0))

-- ---- a plan

any_same : (f g : Edge → Bool) (es : List Edge) → AllByRecursion (λ e. f e ≡ g e) es
    → list_any f es ≡ list_any g es
any_same f g [] same = refl
any_same f g (e ∷ es) same = rw (same.0, any_same f g es same.1) refl

inside_table : (lower through : Bool) → (not through && lower) ≡ (lower && differ lower through)
inside_table true true = refl
inside_table true false = refl
inside_table false true = refl
inside_table false false = refl

-- the line u = constant holds no end of the edges
abbrev pub HoldsNoEnd : Arrow → Arrow → List Edge → Type 0
HoldsNoEnd d u es = AllByRecursion (λ e. ends_over (flat d) u e ≡ false) es

module _ (loops : List (List Point)) (plan : IsTrue (is_plan loops)) (d u : Arrow) (d_is : IsWay d)
    (u_in : IsRational u) (no_end : HoldsNoEnd d u (edges_of loops)) where
  through_is_on : (v : Arrow) → IsRational v
      → AllByRecursion (λ e. is_on (spot_in d u v) e ≡ is_through d u v e) (edges_of loops)
  through_is_on v v_in =
      all_follow (λ e none. on_is_through d u v d_is u_in v_in e none) (edges_of loops) no_end

  -- at most one edge has the value v
  pub at_most_one_at : (v : Arrow) → IsRational v → AtMostOne (is_through d u v) (edges_of loops)
  at_most_one_at v v_in =
      let same = through_is_on v v_in in
      two_follow
      (λ e f. is_on (spot_in d u v) e ≡ true → is_on (spot_in d u v) f ≡ true → ⊥)
      (λ e f. is_through d u v e ≡ true → is_through d u v f ≡ true → ⊥) (edges_of loops)
      (λ e f at_e at_f alone on_e on_f.
      alone
      (all_stands (λ g. is_on (spot_in d u v) g ≡ is_through d u v g) e (edges_of loops) same at_e
      ∙ on_e)
      (all_stands (λ g. is_on (spot_in d u v) g ≡ is_through d u v g) f (edges_of loops) same at_f
      ∙ on_f))
      (at_most_one_passes loops plan (spot_in d u v) (spot_in_is d u v d_is u_in v_in)
      (all_follow (λ e none. no_end_there d u v d_is u_in v_in e none) (edges_of loops) no_end))

  -- a point lies inside exactly where an odd number of edges have a lesser value, and an odd number
  -- at most its value
  pub inside_by_values : (v : Arrow) → IsRational v
      → is_in_plan loops (spot_in d u v)
      ≡ (is_odd_number (is_lower_at d u v) (edges_of loops)
      && is_odd_number (is_up_to_at d u v) (edges_of loops))
  inside_by_values v v_in =
      let es = edges_of loops in
      let lower = is_odd_number (is_lower_at d u v) (edges_of loops) in
      let through = is_odd_number (is_through d u v) (edges_of loops) in
      inside_by_below d (spot_in d u v) d_is (spot_in_is d u v d_is u_in v_in) loops
      ∙ ap₂ (λ s t. not s && t)
      (any_same (is_on (spot_in d u v)) (is_through d u v) (edges_of loops) (through_is_on v v_in)
      ∙ sym (odd_is_any (is_through d u v) (edges_of loops) (at_most_one_at v v_in)))
      (is_odd_number-same (is_below_at d (spot_in d u v)) (is_lower_at d u v)
      (λ e. below_by_value d u v e d_is u_in v_in) (edges_of loops))
      ∙ inside_table lower through
      ∙ ap (λ t. lower && t)
      (sym
      (is_odd_number-same (is_up_to_at d u v)
      (λ e. differ (is_lower_at d u v e) (is_through d u v e)) (up_to_by_cases d u v)
      (edges_of loops)
      ∙ is_odd_number-differ (is_lower_at d u v) (is_through d u v) (edges_of loops)))

  -- across each value that some edge has the parity of the edges below flips, where no edge has
  -- another value between the two points
  pub plan_flips : (v m w : Arrow) → IsRational v → IsRational m → IsRational w → IsBelow v m
      → IsBelow m w
      → AllByRecursion (λ e. reaches_past d u e ≡ true → IsFree v m w (value_of d u e))
      (edges_of loops)
      → list_any (is_through d u m) (edges_of loops) ≡ true
      → differ (is_odd_number (is_below_at d (spot_in d u v)) (edges_of loops))
      (is_odd_number (is_below_at d (spot_in d u w)) (edges_of loops))
      ≡ true
  plan_flips v m w v_in m_in w_in low high free some =
      below_flips d u v m w d_is u_in v_in m_in w_in low high (edges_of loops) free
      (one_of_at_most (is_through d u m) (edges_of loops) (at_most_one_at m m_in) some)
