-- The gap of a point: each point over a slab has one, the edges before it are those below the point, and
-- it lies between two lines.
use Rattle.std.proofs.Common.{◌≡◌, refl, sym, ap, ◌∙◌, ℕ}
use Rattle.std.proofs.Common.{Bool, true, false, ◌&&◌, IsTrue, List}
use Rattle.std.proofs.Common.{slice_get, take}
use Rattle.std.proofs.Common.{pos}
use Rattle.std.proofs.Common.{◌==◌}
use Rattle.std.proofs.Common.{◌∷◌}
use Rattle.std.proofs.Common.{ap₂}
use Rattle.std.proofs.Common.{[]}
use Rattle.std.proofs.Common.{drop}
use Rattle.std.specs.List.{list_any}
use Rattle.theory_lists.specs.Members.{Stands}
use Rattle.theory_lists.specs.Parity.{is_odd_number}
use Rattle.theory_lists.specs.Parity.{differ}
use Rattle.theory_lists.specs.Parted.{IsPartedAt}
use Rattle.theory_lists.proofs.Parity.{is_odd_number-same}
use Rattle.theory_lists.proofs.Parity.{differ-false}
use Rattle.theory_lists.proofs.Parity.{same_from_differ}
use Rattle.theory_lists.proofs.Parity.{is_odd_number-append}
use Rattle.theory_lists.proofs.Parted.{odd_in_part}
use Rattle.theory_numbers.specs.Arrows.{Arrow}
use Rattle.theory_numbers.specs.Arrows.{cross}
use Rattle.theory_numbers.specs.Rationals.{IsBelow, IsAtMost}
use Rattle.theory_numbers.specs.Rationals.{rational}
use Rattle.theory_plane.specs.Points.{ordinate_of}
use Rattle.sb_fraction.specs.Edges.{is_on}
use Rattle.sb_fraction.specs.Edges.{seen_from}
use Rattle.sb_fraction.specs.Edges.{Edge}
use Rattle.sb_fraction.specs.Lines.{in_frame}
use Rattle.sb_fraction.specs.Lines.{flat}
use Rattle.sb_fraction.specs.Lines.{lies_after}
use Rattle.sb_fraction.specs.Lines.{reaches_past}
use Rattle.sb_fraction.specs.Spots.{Spot, IsSpot}
use Rattle.theory_plans.specs.Inside.{is_in_plan}
use Rattle.theory_plans.specs.LoopEdges.{edges_of}
use Rattle.sb_model.specs.Building.{Building, is_building}
use Rattle.sb_model.specs.PlanEdges.{Product, PlanEdge, plan_edges, products_of}
use Rattle.theory_parity.specs.Below.{IsWay, abscissa_in, is_below_at, is_lower_at}
use Rattle.theory_parity.specs.Below.{down_from}
use Rattle.theory_parity.proofs.Rays.BelowByValue.{below_at_point}
use Rattle.theory_lines.specs.Slabs.{IsSlab, IsSlabOrder, has_passing, is_lower_place}
use Rattle.theory_lines.proofs.OddBelowAPoint.{odd_below}
use Rattle.theory_lines.proofs.SortedByValues.{lower_are_first}
use Rattle.theory_gaps.specs.Gaps.{edges_before, IsGapOf, is_present}
use Rattle.theory_gaps.specs.Gaps.{edges_behind}
use Rattle.theory_gaps.specs.Gaps.{edges_at}
use Rattle.theory_gaps.proofs.RowsOfSlabs.{odd-edges_at}
use Rattle.theory_gaps.proofs.RowsOfSlabs.{order_is_row}
use Rattle.theory_gaps.proofs.Rays.WalkUpAndDown.{AreBelow, present_is_inside}
use Rattle.std.proofs.lemmas.List.{take-append-drop}
use Rattle.theory_lists.proofs.Members.{all_that_stand}
use Rattle.theory_lists.proofs.Members.{all_stands}
use Rattle.theory_numbers.proofs.Fractions.Rationals.{at_most_refl}
use Rattle.theory_numbers.proofs.Vectors.Lengths.{long_if_crossed}
use Rattle.std.specs.Ordering.{int_eq}
use Rattle.std.proofs.lemmas.Bool.{or_parts}
use Rattle.std.proofs.lemmas.Bool.{false≢true}
use Rattle.std.proofs.lemmas.Bool.Decides.{Decides-int_eq}
use Rattle.sb_fraction.specs.declared.point.Point.{Point}
use Rattle.sb_fraction.specs.Crossings.{ends_over}
use Rattle.sb_fraction.specs.Crossings.{abscissa_at}
use Rattle.theory_plans.specs.Plans.{is_plan}
use Rattle.sb_model.specs.Solids.{is_upright}
use Rattle.theory_models.proofs.EdgesOfProducts.{plan_of_solid}
use Rattle.theory_models.proofs.EdgesOfProducts.{products_are_solid}
use Rattle.theory_models.proofs.EdgesOfProducts.{own_edges}
use Rattle.theory_parity.proofs.Rays.ClosedChains.{closed_chains}
use Rattle.theory_parity.proofs.Rays.InsideByBelow.{beyond_by_turn}
use Rattle.theory_parity.proofs.Regions.NoEdgeInside.{IsNoEnd}
use Rattle.theory_parity.proofs.Regions.OneEdgeThroughAPoint.{at_most_one_passes}
use Rattle.theory_gaps.specs.Laws.{HasGap}
use Rattle.theory_gaps.specs.Laws.{HasPresence}
use Rattle.theory_gaps.specs.Laws.{HasPresenceFromBehind}
use Rattle.theory_gaps.specs.Laws.{HasOneOwnEdge}
use Rattle.theory_gaps.proofs.EdgesAtANumber.{no_end_over}
use Rattle.theory_gaps.proofs.Rays.LabelsAlongTheNormal.{plan_edge}
use Rattle.theory_gaps.proofs.Rays.LabelsAlongTheNormal.{edge_stands}

module _ (m : Building) (d low high : Arrow) (slab : IsSlab m d low high) (order : List ℕ)
    (is : IsSlabOrder (plan_edges m) d low high order) (p : Spot) (p_is : IsSpot p) where
  abbrev u : Arrow
  u = abscissa_in d p

  abbrev v : Arrow
  v = ordinate_of (in_frame d p)

  -- each point over the slab, its beginning taken in, lies in a gap
  pub has_gap : IsAtMost low (abscissa_in d p) → IsBelow (abscissa_in d p) high
      → (j : ℕ) × IsGapOf m d low high order p j
  has_gap after before =
      from
      (lower_are_first (plan_edges m) d low high slab.low_in slab.high_in slab.wide order is u p_is after
      before v p_is)
    where
      from : (j : ℕ) × IsPartedAt (is_lower_place (plan_edges m) d u v) j order
          → (j : ℕ) × IsGapOf m d low high order p j
      from (j, parts) = (j, record { after = after; before = before; parts = parts })

  -- the edges before its gap are those below it
  pub gap_is_below : (j : ℕ) → IsGapOf m d low high order p j
      → AreBelow m d p (edges_before (plan_edges m) order j)
  gap_is_below j gap = record {
    odd =
        λ test.
        odd-edges_at (plan_edges m) test (take j order)
        ∙ by test (odd_below m d low high slab order is u p_is gap.after gap.before v p_is test)
        ∙ is_odd_number-same (λ e. test e && is_lower_at d u v e.edge)
        (λ e. is_below_at d p e.edge && test e)
        (λ e.
        turned (test e) (is_lower_at d u v e.edge)
        ∙ ap (λ b. b && test e) (sym (below_at_point d p e.edge p_is))) (plan_edges m);
  }
    where
      turned : (s t : Bool) → (s && t) ≡ (t && s)
      turned true true = refl
      turned true false = refl
      turned false true = refl
      turned false false = refl

      by : (test : PlanEdge → Bool)
          → (n : ℕ) × (IsPartedAt (is_lower_place (plan_edges m) d u v) n order
          × (is_odd_number (λ k. has_passing test (slice_get (plan_edges m) k)) (take n order)
          ≡ is_odd_number (λ e. test e && is_lower_at d u v e.edge) (plan_edges m)))
          → is_odd_number (λ k. has_passing test (slice_get (plan_edges m) k)) (take j order)
          ≡ is_odd_number (λ e. test e && is_lower_at d u v e.edge) (plan_edges m)
      by test (n, found) =
          sym (odd_in_part (λ k. has_passing test (slice_get (plan_edges m) k))
          (is_lower_place (plan_edges m) d u v) j order gap.parts)
          ∙ odd_in_part (λ k. has_passing test (slice_get (plan_edges m) k))
          (is_lower_place (plan_edges m) d u v) n order found.0
          ∙ found.1

  -- a product with no own edge through the point contains it exactly where it is present in this gap
  pub present_in_gap : IsTrue (is_building m) → IsWay d → (j : ℕ) → IsGapOf m d low high order p j
      → (q : Product) → Stands q (products_of m) → list_any (is_on p) (edges_of q.prism.loops) ≡ false
      → is_in_plan q.prism.loops p ≡ is_present (edges_before (plan_edges m) order j) q.number
  present_in_gap valid d_is j gap q q_in off =
      present_is_inside m valid d p d_is p_is (edges_before (plan_edges m) order j)
      (gap_is_below j gap) q q_in off

-- ---- from behind

-- over any number an even number of a closed loop's edges reach past
even_over : (d u : Arrow) (loops : List (List Point))
    → is_odd_number (reaches_past d u) (edges_of loops) ≡ false
even_over d u loops =
    closed_chains {barred = λ e. false} {f = reaches_past d u} {g = λ e. false} {w = lies_after d u}
    (record { at = λ a b none. differ-false (differ (lies_after d u a) (lies_after d u b)) }) loops
    (none_barred (edges_of loops))
    ∙ none_odd (edges_of loops)
  where
    none_barred : (es : List Edge) → list_any (λ e. false) es ≡ false
    none_barred [] = refl
    none_barred (e ∷ es) = none_barred es

    none_odd : (es : List Edge) → is_odd_number (λ e. false) es ≡ false
    none_odd [] = refl
    none_odd (e ∷ es) = none_odd es

-- the edges before a gap and behind it are all
odd-parts : (edges : List PlanEdge) (order : List ℕ) (test : PlanEdge → Bool) (j : ℕ)
    → differ (is_odd_number test (edges_before edges order j))
    (is_odd_number test (edges_behind edges order j))
    ≡ is_odd_number test (edges_at edges order)
odd-parts edges order test j =
    ap₂ differ (odd-edges_at edges test (take j order)) (odd-edges_at edges test (drop j order))
    ∙ sym (is_odd_number-append (λ k. has_passing test (slice_get edges k)) (take j order)
    (drop j order))
    ∙ ap (is_odd_number (λ k. has_passing test (slice_get edges k))) (take-append-drop j order)
    ∙ sym (odd-edges_at edges test order)

-- presence counted from behind is the same
pub has_presence_from_behind : HasPresenceFromBehind
has_presence_from_behind m valid d low high slab order is q q_in j =
    same_from_differ (is_present (edges_before (plan_edges m) order j) q.number)
    (is_present (edges_behind (plan_edges m) order j) q.number)
    (odd-parts (plan_edges m) order (λ e. e.product == q.number) j
    ∙ (order_is_row m d low high slab order is low slab.low_in (at_most_refl low) slab.wide).whole
    (λ e. e.product == q.number)
    ∙ is_odd_number-same (λ e. reaches_past d low e.edge && (e.product == q.number))
    (λ e. (e.product == q.number) && reaches_past d low e.edge)
    (λ e. turned (reaches_past d low e.edge) (e.product == q.number)) (plan_edges m)
    ∙ own_edges m valid q q_in (reaches_past d low) ∙ even_over d low q.prism.loops)
  where
    turned : (s t : Bool) → (s && t) ≡ (t && s)
    turned true true = refl
    turned true false = refl
    turned false true = refl
    turned false false = refl

-- ---- the laws

-- each point has a gap
pub has_gap_each : HasGap
has_gap_each m d low high slab order is p p_is after before =
    has_gap m d low high slab order is p p_is after before

-- presence is being inside
pub has_presence : HasPresence
has_presence m valid d low high d_is slab order is p p_is j gap q q_in off =
    present_in_gap m d low high slab order is p p_is valid d_is j gap q q_in off

-- at most one own edge passes
pub has_one_own_edge : HasOneOwnEdge
has_one_own_edge m d low high d_is slab p p_is after before q q_in =
    at_most_one_passes q.prism.loops plan p p_is
    (all_that_stand (IsNoEnd p) (edges_of q.prism.loops)
    (λ e e_in.
    no_end_at d p e
    (no_end_over m d (abscissa_in d p) d_is p_is
    (slab.none (abscissa_in d p) p_is after before) (plan_edge e q.number)
    (edge_stands e q (products_of m) q_in e_in))))
  where
    plan : IsTrue (is_plan q.prism.loops)
    plan =
        plan_of_solid q.prism
        (all_stands (λ r. IsTrue (is_upright r.prism)) q (products_of m) (products_are_solid m) q_in)

    no_end_at : (d : Arrow) (p : Spot) (e : Edge) → ends_over (flat d) (abscissa_in d p) e ≡ false
        → IsNoEnd p e
    no_end_at d p e none =
        let ends =
        or_parts
        (int_eq (cross (abscissa_in d p) (rational (abscissa_at e.a (flat d)) (pos 1))) (pos 0))
        (int_eq (cross (abscissa_in d p) (rational (abscissa_at e.b (flat d)) (pos 1))) (pos 0)) none
        in
        record {
          a_apart =
              (long_if_crossed (down_from d) (seen_from p e.a)
              (λ same. apart e.a ends.0 same)).1;
          b_apart =
              (long_if_crossed (down_from d) (seen_from p e.b)
              (λ same. apart e.b ends.1 same)).1;
        }
      where
        apart : (a : Point)
            → int_eq (cross (abscissa_in d p) (rational (abscissa_at a (flat d)) (pos 1))) (pos 0)
            ≡ false
            → cross (down_from d) (seen_from p a) ≡ pos 0 → ⊥
        apart a off same =
            false≢true
            (sym off
            ∙ (Decides-int_eq
            (cross (abscissa_in d p) (rational (abscissa_at a (flat d)) (pos 1))) (pos 0)).1
            (beyond_by_turn d p a ∙ same))
