-- Two products have a common inner point over a slab exactly where both are present in one of its gaps
-- between two lines, and their heights overlap.
use Rattle.std.proofs.Common.{◌≡◌, refl, sym, ap, ap₂, ◌∙◌, arith, subst, ◌⊎◌, inl, inr, ℕ, zero, suc}
use Rattle.std.proofs.Common.{ℤ, pos, ◌+ℤ◌, ◌*ℤ◌, ◌<ℤ◌, ◌≤ℤ◌, ◌==◌, Bool, true, false, not, ◌&&◌, IsTrue}
use Rattle.std.proofs.Common.{List, [], ◌∷◌, Some, slice_get, take, drop, int_lt}
use Rattle.std.specs.List.{AllByRecursion, list_any}
use Rattle.std.proofs.lemmas.Int.{ints}
use Rattle.std.proofs.lemmas.Bool.{and_parts, and_from, false≢true}
use Rattle.std.proofs.lemmas.List.{take-append-drop}
use Rattle.theory_lists.specs.Members.{Stands}
use Rattle.theory_lists.specs.Parity.{differ, is_odd_number}
use Rattle.theory_lists.proofs.Members.{all_follow, all_stands, all_that_stand}
use Rattle.theory_lists.proofs.InAnyOrder.{stands_permuted}
use Rattle.theory_lists.proofs.Parity.{is_odd_number-same, is_odd_number-append, differ-false, odd_where_same}
use Rattle.theory_numbers.specs.Arrows.{Arrow, arrow, cross, dot, scale}
use Rattle.theory_numbers.specs.Rationals.{IsRational, IsBelow, IsAtMost, is_below, is_at_most, mediant}
use Rattle.theory_numbers.proofs.Vectors.Arrows.{cross-turn, cross-scale, scale-cross}
use Rattle.theory_numbers.proofs.Vectors.Arrows.{same_arrow}
use Rattle.theory_numbers.proofs.Products.{unscale_less, scale_less, positive_product}
use Rattle.theory_numbers.proofs.Fractions.Rationals.{mediant_between, mediant-IsRational, at_most_from_below}
use Rattle.theory_numbers.proofs.Ring.{mul_comm}
use Rattle.theory_numbers.proofs.Shapes.{var, num, plus, times, equal}
use Rattle.theory_numbers.proofs.Shapes.{dot_by}
use Rattle.theory_numbers.proofs.Signs.{less_from, test_less, test_at_most, test_not_less, test_not_at_most}
use Rattle.theory_numbers.proofs.Signs.{not_less_from}
use Rattle.theory_numbers.proofs.Signs.{less_or_not}
use Rattle.theory_plane.specs.Points.{ordinate_of}
use Rattle.theory_plane.proofs.Clearance.{value_on-IsRational}
use Rattle.sb_fraction.specs.declared.point.Point.{Point}
use Rattle.sb_fraction.specs.Edges.{Edge, is_on}
use Rattle.sb_fraction.specs.Crossings.{ends_over}
use Rattle.sb_fraction.specs.Lines.{flat, in_frame, line_over, reaches_past}
use Rattle.sb_fraction.specs.Spots.{Spot, spot, IsSpot}
use Rattle.theory_plans.specs.Inside.{is_in_plan, is_crossed}
use Rattle.theory_plans.specs.LoopEdges.{edges_of}
use Rattle.theory_plans.proofs.PointsAlike.{inside_sees_no_factor}
use Rattle.sb_model.specs.Building.{Building, is_building}
use Rattle.sb_model.specs.PlanEdges.{Product, PlanEdge, plan_edges, products_of}
use Rattle.sb_model.specs.Solids.{Upright, is_upright, is_in_solid, is_between_heights, is_height}
use Rattle.theory_plans.specs.Plans.{is_plan}
use Rattle.theory_models.proofs.EdgesOfProducts.{own_edges, plan_of_solid, products_are_solid}
use Rattle.theory_parity.specs.Below.{IsWay, abscissa_in, value_of, spot_in, is_lower_at}
use Rattle.theory_parity.proofs.Rays.BelowByValue.{spot_in_is, abscissa_of_spot}
use Rattle.theory_parity.proofs.Rays.BelowFlips.{reaching_is_line}
use Rattle.theory_parity.proofs.InsideByValues.{HoldsNoEnd, inside_by_values}
use Rattle.theory_lines.specs.Slabs.{IsSlab, IsSlabOrder, spanning_places, has_passing, is_lower_place}
use Rattle.theory_lines.proofs.SlabOrderIsOne.{spans_at}
use Rattle.theory_gaps.specs.Gaps.{with_one, edges_at, edges_before, is_present, IsRealGap, IsStrictlyIn}
use Rattle.theory_gaps.specs.Gaps.{IsGapOf, IsCommonOver, OverlapInGap}
use Rattle.theory_gaps.specs.Laws.{HasRealGaps, HasOverlapInGaps}
use Rattle.theory_gaps.proofs.EdgesAtANumber.{no_end_over}
use Rattle.theory_gaps.proofs.Gaps.GapsOfPoints.{has_gap, present_in_gap}
use Rattle.theory_gaps.proofs.Rays.LabelsAlongTheNormal.{plan_edge, edge_stands}
use Rattle.theory_gaps.proofs.Gaps.RealGaps.{real_if_parted, real_gap_has_point}
use Rattle.theory_gaps.proofs.RowsOfSlabs.{IsRowOver, order_is_row}
use Rattle.theory_gaps.proofs.RowsOfSlabs.{all_edges_at}
use Rattle.theory_lists.proofs.Blocks.{all_in_parts}

-- the first law
pub has_real_gaps : HasRealGaps
has_real_gaps m d low high d_is slab order is u u_in after before j =
    real_gap_has_point m d u d_is u_in (slab.none u u_in after before) (edges_at (plan_edges m) order)
    (order_is_row m d low high slab order is u u_in (at_most_from_below low u after) before) j

-- ---- the first places of an order

-- an edge stands at each place
abbrev HaveEdges : List PlanEdge → List ℕ → Type 0
HaveEdges edges places = AllByRecursion (λ k. (e : PlanEdge) × (slice_get edges k ≡ Some e)) places

-- the edges at the first places are the first edges
edges_at-take : (edges : List PlanEdge) (places : List ℕ) → HaveEdges edges places → (j : ℕ)
    → edges_at edges (take j places) ≡ take j (edges_at edges places)
edges_at-take edges [] have zero = refl
edges_at-take edges [] have (suc j) = refl
edges_at-take edges (k ∷ places) have zero = refl
edges_at-take edges (k ∷ places) have (suc j) = by have.0 (edges_at-take edges places have.1 j)
  where
    by : (e : PlanEdge) × (slice_get edges k ≡ Some e)
        → edges_at edges (take j places) ≡ take j (edges_at edges places)
        → with_one (slice_get edges k) (edges_at edges (take j places))
        ≡ take (suc j) (with_one (slice_get edges k) (edges_at edges places))
    by (e, there) rest =
        ap (λ o. with_one o (edges_at edges (take j places))) there ∙ ap (λ es. e ∷ es) rest
        ∙ ap (λ o. take (suc j) (with_one o (edges_at edges places))) (sym there)

edges_at-drop : (edges : List PlanEdge) (places : List ℕ) → HaveEdges edges places → (j : ℕ)
    → edges_at edges (drop j places) ≡ drop j (edges_at edges places)
edges_at-drop edges [] have zero = refl
edges_at-drop edges [] have (suc j) = refl
edges_at-drop edges (k ∷ places) have zero = refl
edges_at-drop edges (k ∷ places) have (suc j) = by have.0 (edges_at-drop edges places have.1 j)
  where
    by : (e : PlanEdge) × (slice_get edges k ≡ Some e)
        → edges_at edges (drop j places) ≡ drop j (edges_at edges places)
        → edges_at edges (drop j places)
        ≡ drop (suc j) (with_one (slice_get edges k) (edges_at edges places))
    by (e, there) rest =
        rest ∙ ap (λ o. drop (suc j) (with_one o (edges_at edges places))) (sym there)

-- the places of an order have edges
order_has_edges : (edges : List PlanEdge) (d low high : Arrow) (order : List ℕ)
    → IsSlabOrder edges d low high order → HaveEdges edges order
order_has_edges edges d low high order is =
    all_that_stand (λ k. (e : PlanEdge) × (slice_get edges k ≡ Some e)) order
    (λ k k_in.
    let at =
    spans_at edges d low high k
    (stands_permuted k order (spanning_places edges d low high) is.spanning k_in)
    in
    (at.edge, at.there))

module _ (m : Building) (valid : IsTrue (is_building m)) (d low high : Arrow) (d_is : IsWay d)
    (slab : IsSlab m d low high) (order : List ℕ)
    (is : IsSlabOrder (plan_edges m) d low high order) where
  abbrev row : List PlanEdge
  row = edges_at (plan_edges m) order

  solid : (q : Product) → Stands q (products_of m) → IsTrue (is_upright q.prism)
  solid q q_in =
      all_stands (λ r. IsTrue (is_upright r.prism)) q (products_of m) (products_are_solid m) q_in

  -- ---- from a point to a gap

  heights_over : (q r : Upright) (p : Spot) → IsSpot p → is_between_heights q.z0 q.z1 p ≡ true
      → is_between_heights r.z0 r.z1 p ≡ true → q.z0 <ℤ r.z1
  heights_over q r p p_is of_q of_r =
      let first = and_parts (int_lt (q.z0 *ℤ p.w) p.z) (int_lt p.z (q.z1 *ℤ p.w)) of_q in
      let second = and_parts (int_lt (r.z0 *ℤ p.w) p.z) (int_lt p.z (r.z1 *ℤ p.w)) of_r in
      let low = less_from (q.z0 *ℤ p.w) p.z first.0 in
      let high = less_from p.z (r.z1 *ℤ p.w) second.1 in
      let one = mul_comm p.w q.z0 in
      let other = mul_comm p.w r.z1 in
      unscale_less p.w q.z0 r.z1 (omega (arith, ints)) (omega (arith, ints))

  inside_is_off : (p : Spot) (loops : List (List Point)) → is_in_plan loops p ≡ true
      → list_any (is_on p) (edges_of loops) ≡ false
  inside_is_off p loops inside =
      from (list_any (is_on p) (edges_of loops))
      ((and_parts (not (list_any (is_on p) (edges_of loops)))
      (is_odd_number (is_crossed p) (edges_of loops)) inside).0)
    where
      from : (b : Bool) → not b ≡ true → b ≡ false
      from true answer = absurd (false≢true answer)
      from false answer = refl

  module _ (q r : Product) (q_in : Stands q (products_of m)) (r_in : Stands r (products_of m)) where
    to_gap : (p : Spot) → IsCommonOver d low high q.prism r.prism p
        → (j : ℕ) × IsGapOf m d low high order p j → (j : ℕ) × OverlapInGap m d order q r j
    to_gap p common (j, gap) = (
      j,
      record {
        real = real;
        first =
            sym (present_in_gap m d low high slab order is p common.positive valid d_is j gap q q_in
            (inside_is_off p q.prism.loops of_q.0))
            ∙ of_q.0;
        second =
            sym (present_in_gap m d low high slab order is p common.positive valid d_is j gap r r_in
            (inside_is_off p r.prism.loops of_r.0))
            ∙ of_r.0;
        under = heights_over q.prism r.prism p common.positive of_q.1 of_r.1;
        over = heights_over r.prism q.prism p common.positive of_r.1 of_q.1;
      },
    )
      where
        of_q : (is_in_plan q.prism.loops p ≡ true)
            × (is_between_heights q.prism.z0 q.prism.z1 p ≡ true)
        of_q =
            and_parts (is_in_plan q.prism.loops p) (is_between_heights q.prism.z0 q.prism.z1 p)
            common.first

        of_r : (is_in_plan r.prism.loops p ≡ true)
            × (is_between_heights r.prism.z0 r.prism.z1 p ≡ true)
        of_r =
            and_parts (is_in_plan r.prism.loops p) (is_between_heights r.prism.z0 r.prism.z1 p)
            common.second

        u : Arrow
        u = abscissa_in d p

        v : Arrow
        v = ordinate_of (in_frame d p)

        over_row : IsRowOver m d u row
        over_row =
            order_is_row m d low high slab order is (abscissa_in d p) common.positive gap.after
            gap.before

        -- by places, the values before and behind
        behind_places : (ks : List ℕ)
            → AllByRecursion (λ k. is_lower_place (plan_edges m) d u v k ≡ true) ks
            → AllByRecursion (λ e. is_lower_at d u v e.edge ≡ true) (edges_at (plan_edges m) ks)
        behind_places ks lower =
            all_edges_at (plan_edges m) (λ e. is_lower_at d u v e.edge ≡ true) ks
            (all_follow
            {P = λ k. is_lower_place (plan_edges m) d u v k ≡ true}
            {Q = λ k.
            (e : PlanEdge) → slice_get (plan_edges m) k ≡ Some e → is_lower_at d u v e.edge ≡ true}
            (λ k at e there. sym (ap (has_passing (λ f. is_lower_at d u v f.edge)) there) ∙ at) ks lower)

        ahead_places : (ks : List ℕ)
            → AllByRecursion (λ k. is_lower_place (plan_edges m) d u v k ≡ false) ks
            → AllByRecursion (λ e. is_lower_at d u v e.edge ≡ false) (edges_at (plan_edges m) ks)
        ahead_places ks lower =
            all_edges_at (plan_edges m) (λ e. is_lower_at d u v e.edge ≡ false) ks
            (all_follow
            {P = λ k. is_lower_place (plan_edges m) d u v k ≡ false}
            {Q = λ k.
            (e : PlanEdge) → slice_get (plan_edges m) k ≡ Some e → is_lower_at d u v e.edge ≡ false}
            (λ k at e there. sym (ap (has_passing (λ f. is_lower_at d u v f.edge)) there) ∙ at) ks lower)

        not_lower : (es : List PlanEdge)
            → AllByRecursion (λ e. Stands e (plan_edges m) × (reaches_past d u e.edge ≡ true)) es
            → AllByRecursion (λ e. is_lower_at d u v e.edge ≡ false) es
            → AllByRecursion (λ e. IsAtMost v (value_of d u e.edge)) es
        not_lower [] over lower = tt
        not_lower (e ∷ es) over lower = (
          let off : is_below (value_of d u e.edge) v ≡ false =
              ap (λ b. b && is_below (value_of d u e.edge) v) (sym over.0.1) ∙ lower.0 in
              let low = not_less_from (pos 0) (cross (value_of d u e.edge) v) off in
              let turn = cross-turn (value_of d u e.edge) v in
              omega (arith, ints),
          not_lower es over.1 lower.1,
        )

        row_parts : AllByRecursion
            (λ e. Stands e (plan_edges m) × (reaches_past d u e.edge ≡ true)) (drop j row)
        row_parts =
            (all_in_parts (λ e. Stands e (plan_edges m) × (reaches_past d u e.edge ≡ true)) (take j row)
            (drop j row)
            (subst
            (AllByRecursion (λ e. Stands e (plan_edges m) × (reaches_past d u e.edge ≡ true)))
            (sym (take-append-drop j row)) over_row.over)).1

        real : IsRealGap d row j
        real =
            real_if_parted d u common.positive v common.positive row
            (all_follow
            {P = λ e. Stands e (plan_edges m) × (reaches_past d u e.edge ≡ true)}
            {Q = λ e. IsRational (value_of d u e.edge)}
            (λ e at.
            value_on-IsRational (line_over d e.edge) u (reaching_is_line d u e.edge at.1)
            common.positive)
            row over_row.over) j
            (all_follow
            {P = λ e. is_lower_at d u v e.edge ≡ true} {Q = λ e. IsBelow (value_of d u e.edge) v}
            (λ e lower.
            less_from (pos 0) (cross (value_of d u e.edge) v)
            ((and_parts (reaches_past d u e.edge) (is_below (value_of d u e.edge) v) lower).1))
            (take j row)
            (subst (AllByRecursion (λ e. is_lower_at d u v e.edge ≡ true))
            (edges_at-take (plan_edges m) order (order_has_edges (plan_edges m) d low high order is) j)
            (behind_places (take j order) gap.parts.first)))
            (not_lower (drop j row) row_parts
            (subst (AllByRecursion (λ e. is_lower_at d u v e.edge ≡ false))
            (edges_at-drop (plan_edges m) order (order_has_edges (plan_edges m) d low high order is) j)
            (ahead_places (drop j order) gap.parts.rest)))

    -- ---- from a gap to a point

    -- a point strictly in a gap lies inside the products that are present in it
    inside_in_gap : (u : Arrow) → IsRational u → IsBelow low u → IsBelow u high → (v : Arrow)
        → IsRational v → (j : ℕ) → IsStrictlyIn d row j u v → (t : Product)
        → Stands t (products_of m)
        → is_in_plan t.prism.loops (spot_in d u v)
        ≡ is_present (edges_before (plan_edges m) order j) t.number
    inside_in_gap u u_in after before v v_in j strictly t t_in =
        inside_by_values t.prism.loops (plan_of_solid t.prism (solid t t_in)) d u d_is u_in no_end v v_in
        ∙ ap₂ (λ a b. a && b)
        (counted (λ e. is_below (value_of d u e) v)
        (all_follow {P = λ e. IsBelow (value_of d u e.edge) v}
        {Q = λ e. is_below (value_of d u e.edge) v ≡ true}
        (λ e less. test_less (pos 0) (cross (value_of d u e.edge) v) less) (take j row) strictly.0)
        (all_follow {P = λ e. IsBelow v (value_of d u e.edge)}
        {Q = λ e. is_below (value_of d u e.edge) v ≡ false}
        (λ e more.
        let turn = cross-turn v (value_of d u e.edge) in
        test_not_less (pos 0) (cross (value_of d u e.edge) v) (omega (arith, ints)))
        (drop j row) strictly.1))
        (counted (λ e. is_at_most (value_of d u e) v)
        (all_follow {P = λ e. IsBelow (value_of d u e.edge) v}
        {Q = λ e. is_at_most (value_of d u e.edge) v ≡ true}
        (λ e less. test_at_most (pos 0) (cross (value_of d u e.edge) v) (omega (arith, ints, less)))
        (take j row) strictly.0)
        (all_follow {P = λ e. IsBelow v (value_of d u e.edge)}
        {Q = λ e. is_at_most (value_of d u e.edge) v ≡ false}
        (λ e more.
        let turn = cross-turn v (value_of d u e.edge) in
        test_not_at_most (pos 0) (cross (value_of d u e.edge) v) (omega (arith, ints)))
        (drop j row) strictly.1))
        ∙ and_self (is_present (edges_before (plan_edges m) order j) t.number)
      where
        and_self : (b : Bool) → (b && b) ≡ b
        and_self true = refl
        and_self false = refl

        both_true : (a b : Bool) → b ≡ true → (a && b) ≡ a
        both_true true b same = same
        both_true false b same = refl

        both_false : (a b : Bool) → b ≡ false → (a && b) ≡ false
        both_false true b same = same
        both_false false b same = refl

        none_odd : (es : List PlanEdge) → is_odd_number (λ e. false) es ≡ false
        none_odd [] = refl
        none_odd (e ∷ es) = none_odd es

        no_end : HoldsNoEnd d u (edges_of t.prism.loops)
        no_end =
            all_that_stand (λ e. ends_over (flat d) u e ≡ false) (edges_of t.prism.loops)
            (λ e e_in.
            no_end_over m d u d_is u_in (slab.none u u_in after before) (plan_edge e t.number)
            (edge_stands e t (products_of m) t_in e_in))

        over_row : IsRowOver m d u row
        over_row =
            order_is_row m d low high slab order is u u_in (at_most_from_below low u after) before

        exchanged : (a b c : Bool) → (a && (b && c)) ≡ (b && (a && c))
        exchanged true b c = refl
        exchanged false true c = refl
        exchanged false false c = refl

        counted : (test : Edge → Bool) → AllByRecursion (λ e. test e.edge ≡ true) (take j row)
            → AllByRecursion (λ e. test e.edge ≡ false) (drop j row)
            → is_odd_number (λ e. reaches_past d u e && test e) (edges_of t.prism.loops)
            ≡ is_present (edges_before (plan_edges m) order j) t.number
        counted test first rest =
            sym (own_edges m valid t t_in (λ e. reaches_past d u e && test e))
            ∙ is_odd_number-same
            (λ e. (e.product == t.number) && (reaches_past d u e.edge && test e.edge))
            (λ e. reaches_past d u e.edge && ((e.product == t.number) && test e.edge))
            (λ e. exchanged (e.product == t.number) (reaches_past d u e.edge) (test e.edge))
            (plan_edges m)
            ∙ sym (over_row.whole (λ e. (e.product == t.number) && test e.edge))
            ∙ ap (is_odd_number (λ e. (e.product == t.number) && test e.edge))
            (sym (take-append-drop j row))
            ∙ is_odd_number-append (λ e. (e.product == t.number) && test e.edge) (take j row)
            (drop j row)
            ∙ ap₂ differ
            (odd_where_same (λ e. (e.product == t.number) && test e.edge) (λ e. e.product == t.number)
            (take j row)
            (all_follow {P = λ e. test e.edge ≡ true}
            {Q = λ e. ((e.product == t.number) && test e.edge) ≡ (e.product == t.number)}
            (λ e at. both_true (e.product == t.number) (test e.edge) at) (take j row) first))
            (odd_where_same (λ e. (e.product == t.number) && test e.edge) (λ e. false) (drop j row)
            (all_follow {P = λ e. test e.edge ≡ false}
            {Q = λ e. ((e.product == t.number) && test e.edge) ≡ false}
            (λ e at. both_false (e.product == t.number) (test e.edge) at) (drop j row) rest)
            ∙ none_odd (drop j row))
            ∙ differ-false (is_odd_number (λ e. e.product == t.number) (take j row))
            ∙ ap (is_odd_number (λ e. e.product == t.number))
            (sym
            (edges_at-take (plan_edges m) order (order_has_edges (plan_edges m) d low high order is) j))

    -- at a height between the two
    at_height : Spot → ℤ → ℤ → Spot
    at_height p low_z high_z =
        spot (pos 2 *ℤ p.x) (pos 2 *ℤ p.y) ((low_z +ℤ high_z) *ℤ p.w) (pos 2 *ℤ p.w)

    between_heights : (p : Spot) → IsSpot p → (low_z high_z : ℤ) → low_z <ℤ high_z → (z0 z1 : ℤ)
        → z0 ≤ℤ low_z → high_z ≤ℤ z1 → is_between_heights z0 z1 (at_height p low_z high_z) ≡ true
    unfolding at_height
    between_heights p p_is low_z high_z wide z0 z1 under over =
        and_from (int_lt (z0 *ℤ (pos 2 *ℤ p.w)) ((low_z +ℤ high_z) *ℤ p.w))
        (int_lt ((low_z +ℤ high_z) *ℤ p.w) (z1 *ℤ (pos 2 *ℤ p.w)))
        (test_less (z0 *ℤ (pos 2 *ℤ p.w)) ((low_z +ℤ high_z) *ℤ p.w)
        (let less = scale_less p.w (z0 +ℤ z0) (low_z +ℤ high_z) p_is (omega (arith, ints)) in
        let one = doubled z0 in
        let other = mul_comm p.w (low_z +ℤ high_z) in
        omega (arith, ints)))
        (test_less ((low_z +ℤ high_z) *ℤ p.w) (z1 *ℤ (pos 2 *ℤ p.w))
        (let less = scale_less p.w (low_z +ℤ high_z) (z1 +ℤ z1) p_is (omega (arith, ints)) in
        let one = doubled z1 in
        let other = mul_comm p.w (low_z +ℤ high_z) in
        omega (arith, ints)))
      where
        doubled : (z : ℤ) → z *ℤ (pos 2 *ℤ p.w) ≡ p.w *ℤ (z +ℤ z)
        doubled z =
            equal (times (var z) (times (num 2) (var p.w))) (times (var p.w) (plus (var z) (var z)))
            (omega arith)

    wide_of : (s : Upright) → IsTrue (is_upright s) → s.z0 <ℤ s.z1
    wide_of s is_solid =
        less_from s.z0 s.z1
        (and_parts (is_plan s.loops) (int_lt s.z0 s.z1)
        (and_parts (is_plan s.loops && int_lt s.z0 s.z1) (is_height s.z0)
        (and_parts (is_plan s.loops && int_lt s.z0 s.z1 && is_height s.z0) (is_height s.z1)
        is_solid).0).0).1

    -- two numbers between the heights of both
    record HasLevels : Type 0 where
      low_z : ℤ
      high_z : ℤ
      wide : low_z <ℤ high_z
      under_q : q.prism.z0 ≤ℤ low_z
      under_r : r.prism.z0 ≤ℤ low_z
      over_q : high_z ≤ℤ q.prism.z1
      over_r : high_z ≤ℤ r.prism.z1

    has_levels : q.prism.z0 <ℤ r.prism.z1 → r.prism.z0 <ℤ q.prism.z1 → HasLevels
    has_levels under over =
        by (less_or_not q.prism.z0 r.prism.z0) (less_or_not q.prism.z1 r.prism.z1)
      where
        of_q : q.prism.z0 <ℤ q.prism.z1
        of_q = wide_of q.prism (solid q q_in)

        of_r : r.prism.z0 <ℤ r.prism.z1
        of_r = wide_of r.prism (solid r r_in)

        levels : (a b : ℤ) → a <ℤ b → q.prism.z0 ≤ℤ a → r.prism.z0 ≤ℤ a → b ≤ℤ q.prism.z1
            → b ≤ℤ r.prism.z1 → HasLevels
        levels a b wide u1 u2 o1 o2 =
            record {
              low_z = a;
              high_z = b;
              wide = wide;
              under_q = u1;
              under_r = u2;
              over_q = o1;
              over_r = o2;
            }

        by : (q.prism.z0 <ℤ r.prism.z0) ⊎ (r.prism.z0 ≤ℤ q.prism.z0)
            → (q.prism.z1 <ℤ r.prism.z1) ⊎ (r.prism.z1 ≤ℤ q.prism.z1) → HasLevels
        by (inl low_less) (inl high_less) =
            levels r.prism.z0 q.prism.z1 over (omega (arith, ints)) (omega (arith, ints))
            (omega (arith, ints)) (omega (arith, ints))
        by (inl low_less) (inr high_more) =
            levels r.prism.z0 r.prism.z1 of_r (omega (arith, ints)) (omega (arith, ints))
            (omega (arith, ints)) (omega (arith, ints))
        by (inr low_more) (inl high_less) =
            levels q.prism.z0 q.prism.z1 of_q (omega (arith, ints)) (omega (arith, ints))
            (omega (arith, ints)) (omega (arith, ints))
        by (inr low_more) (inr high_more) =
            levels q.prism.z0 r.prism.z1 under (omega (arith, ints)) (omega (arith, ints))
            (omega (arith, ints)) (omega (arith, ints))

    to_point : (j : ℕ) → OverlapInGap m d order q r j
        → (p : Spot) × IsCommonOver d low high q.prism r.prism p
    unfolding at_height
    to_point j overlap =
        by
        ((real_gap_has_point m d u d_is u_in (slab.none u u_in there.0 there.1) row
        (order_is_row m d low high slab order is u u_in (at_most_from_below low u there.0) there.1)
        j).0 overlap.real)
      where
        u : Arrow
        u = mediant low high

        u_in : IsRational u
        u_in = mediant-IsRational low high slab.low_in slab.high_in

        there : IsBelow low (mediant low high) × IsBelow (mediant low high) high
        there = mediant_between low high slab.wide

        levels : HasLevels
        levels = has_levels overlap.under overlap.over

        abscissa_scaled : (p : Spot) (z : ℤ)
            → abscissa_in d (spot (pos 2 *ℤ p.x) (pos 2 *ℤ p.y) z (pos 2 *ℤ p.w))
            ≡ scale (pos 2) (abscissa_in d p)
        abscissa_scaled p z =
            ap (arrow (pos 2 *ℤ p.w))
            (equal
            (dot_by d (arrow (pos 2 *ℤ p.x) (pos 2 *ℤ p.y)) (var d.x) (var d.y)
            (times (num 2) (var p.x)) (times (num 2) (var p.y)))
            (times (num 2) (dot_by d (arrow p.x p.y) (var d.x) (var d.y) (var p.x) (var p.y)))
            (omega arith))

        by : (v : Arrow) × (IsRational v × IsStrictlyIn d row j u v)
            → (p : Spot) × IsCommonOver d low high q.prism r.prism p
        by (v, (v_in, strictly)) = (
          at_height (spot_in d u v) levels.low_z levels.high_z,
          record {
            positive = positive;
            after =
                subst (IsBelow low) (sym at_u)
                (subst (λ k. pos 0 <ℤ k) (sym (cross-scale factor low u))
                (positive_product factor (cross low u) factor_in there.0));
            before =
                subst (λ t. IsBelow t high) (sym at_u)
                (subst (λ k. pos 0 <ℤ k) (sym (scale-cross factor u high))
                (positive_product factor (cross u high) factor_in there.1));
            first = in_solid q q_in overlap.first levels.under_q levels.over_q;
            second = in_solid r r_in overlap.second levels.under_r levels.over_r;
          },
        )
          where
            p : Spot
            p = spot_in d u v

            p_is : IsSpot p
            p_is = spot_in_is d u v d_is u_in v_in

            positive : pos 0 <ℤ (pos 2 *ℤ p.w)
            positive = let some = p_is in omega (arith, ints)

            factor : ℤ
            factor = pos 2 *ℤ (dot d d *ℤ v.x)

            factor_in : pos 0 <ℤ factor
            factor_in = let some = positive_product (dot d d) v.x d_is v_in in omega (arith, ints)

            gathered : (a b c : ℤ) → pos 2 *ℤ (a *ℤ (b *ℤ c)) ≡ (pos 2 *ℤ (a *ℤ b)) *ℤ c
            gathered a b c =
                equal (times (num 2) (times (var a) (times (var b) (var c))))
                (times (times (num 2) (times (var a) (var b))) (var c)) (omega arith)

            at_u : abscissa_in d (at_height p levels.low_z levels.high_z) ≡ scale factor u
            at_u =
                abscissa_scaled p ((levels.low_z +ℤ levels.high_z) *ℤ p.w)
                ∙ ap (scale (pos 2)) (abscissa_of_spot d u v)
                ∙ same_arrow (scale (pos 2) (scale (dot d d) (scale v.x u))) (scale factor u)
                (gathered (dot d d) v.x u.x) (gathered (dot d d) v.x u.y)

            in_solid : (t : Product) → Stands t (products_of m)
                → is_present (edges_before (plan_edges m) order j) t.number ≡ true
                → t.prism.z0 ≤ℤ levels.low_z → levels.high_z ≤ℤ t.prism.z1
                → is_in_solid t.prism (at_height p levels.low_z levels.high_z) ≡ true
            in_solid t t_in present under over =
                and_from (is_in_plan t.prism.loops (at_height p levels.low_z levels.high_z))
                (is_between_heights t.prism.z0 t.prism.z1 (at_height p levels.low_z levels.high_z))
                (inside_sees_no_factor t.prism.loops (pos 2) p (omega (arith, ints))
                ∙ inside_in_gap u u_in there.0 there.1 v v_in j strictly t t_in ∙ present)
                (between_heights p p_is levels.low_z levels.high_z levels.wide t.prism.z0 t.prism.z1
                under over)

-- the second
pub has_overlap_in_gaps : HasOverlapInGaps
has_overlap_in_gaps m valid d low high d_is slab order is q r q_in r_in = (
  λ common.
      to_gap m valid d low high d_is slab order is q r q_in r_in common.0 common.1
      (has_gap m d low high slab order is common.0 common.1.positive
      (at_most_from_below low (abscissa_in d common.0) common.1.after) common.1.before),
  λ overlap. to_point m valid d low high d_is slab order is q r q_in r_in overlap.0 overlap.1,
)
