-- A point between the lines of the two edges beside a gap lies in the gap, and on no edge.

use Rattle.std.proofs.Common.{◌≡◌, inl, inr, refl, sym, ap, ◌∙◌, subst, arith, ℕ, zero, suc, pos}
use Rattle.std.proofs.Common.{Bool, true, false, ◌&&◌, List, [], ◌∷◌, Some, take, drop, slice_get, IsTrue}
use Rattle.std.specs.List.{AllByRecursion, list_any}
use Rattle.std.proofs.lemmas.Int.{ints}
use Rattle.std.proofs.lemmas.Bool.{and_from, and_parts, false≢true, false_from_ne_true}
use Rattle.std.proofs.lemmas.Option.{same_Some, none-some}
use Rattle.theory_lists.specs.Members.{Stands, AllOfTwo}
use Rattle.theory_lists.proofs.Members.{all_stands, all_follow, stands_at, one_of_any}
use Rattle.theory_numbers.specs.Arrows.{Arrow, cross}
use Rattle.theory_numbers.specs.Rationals.{IsRational, IsBelow, IsAtMost, IsSame, is_below}
use Rattle.theory_numbers.proofs.Vectors.Arrows.{cross-turn}
use Rattle.theory_numbers.proofs.Fractions.Rationals.{at_most_below_trans, below_at_most_trans, at_most_from_below}
use Rattle.theory_numbers.proofs.Signs.{test_less, test_not_less}
use Rattle.theory_plane.specs.Points.{ordinate_of}
use Rattle.theory_plane.proofs.Clearance.{value_on-IsRational}
use Rattle.theory_plane.proofs.Points.{on_is}
use Rattle.sb_fraction.specs.Edges.{is_on, turn_at, reach_at}
use Rattle.sb_fraction.specs.Lines.{in_frame, line_over, reaches_past}
use Rattle.sb_fraction.specs.Spots.{Spot, IsSpot}
use Rattle.std.specs.Ordering.{int_eq}
use Rattle.std.specs.Prelude.{int_le}
use Rattle.theory_plans.specs.Inside.{is_in_plan}
use Rattle.theory_plans.specs.LoopEdges.{edges_of}
use Rattle.sb_model.specs.declared.products.Space.{Space}
use Rattle.sb_model.specs.Building.{Building, is_building}
use Rattle.sb_model.specs.PlanEdges.{PlanEdge, plan_edges, products_of}
use Rattle.theory_models.proofs.NumbersApart.{of_space, space_stands}
use Rattle.theory_parity.specs.Below.{abscissa_in, value_of, is_lower_at}
use Rattle.theory_parity.proofs.Rays.BelowFlips.{reaching_is_line}
use Rattle.theory_parity.proofs.OnLineOver.{on_line_over}
use Rattle.theory_lines.specs.Slabs.{IsSlab, IsSlabOrder, has_passing, is_lower_place}
use Rattle.theory_lines.proofs.EdgesOverASlab.{reaching_spans}
use Rattle.theory_gaps.specs.Gaps.{with_one, edges_at, edges_before, is_present, IsStrictlyIn, IsGapOf}
use Rattle.theory_gaps.proofs.EdgesAtANumber.{no_end_over}
use Rattle.theory_gaps.proofs.Gaps.GapsOfPoints.{has_presence}
use Rattle.theory_gaps.proofs.Rays.LabelsAlongTheNormal.{plan_edge, edge_stands}
use Rattle.theory_gaps.proofs.OutwardFromSides.{reaches_if_on}
use Rattle.theory_gaps.proofs.RowsOfSlabs.{IsRowOver, order_is_row, spanning_stands}
use Rattle.sb_frame.specs.Directions.{along_x}
use Rattle.sb_walk.specs.GapsBetween.{IsBetween}
use Rattle.sb_walk.proofs.SharedGaps.{HaveEdges, edges_at-take, x_is_way, have_edges}

-- ---- by values

module _ (d u : Arrow) (u_in : IsRational u) (v : Arrow) (v_in : IsRational v) where
  abbrev value : PlanEdge → Arrow
  value e = value_of d u e.edge

  abbrev AreRational : List PlanEdge → Type 0
  AreRational = AllByRecursion (λ e. IsRational (value_of d u e.edge))

  abbrev Rising : List PlanEdge → Type 0
  Rising = AllOfTwo (λ e f. IsAtMost (value_of d u e.edge) (value_of d u f.edge))

  -- behind the first above the number all are above it
  all_above : (f : PlanEdge) (row : List PlanEdge) → AreRational (f ∷ row)
      → AllByRecursion (λ g. IsAtMost (value_of d u f.edge) (value_of d u g.edge)) row
      → IsBelow v (value_of d u f.edge) → AllByRecursion (λ g. IsBelow v (value_of d u g.edge)) row
  all_above f [] in_row rise above = tt
  all_above f (g ∷ row) in_row rise above = (
    below_at_most_trans v (value f) (value g) v_in in_row.0 in_row.1.0 above rise.0,
    all_above f row (in_row.0, in_row.1.1) rise.1 above,
  )

  -- so a number between the values of the two edges beside a gap lies strictly in it
  pub strictly_in : (row : List PlanEdge) (j : ℕ) (e f : PlanEdge) → AreRational row → Rising row
      → IsBetween row j e f → IsBelow (value_of d u e.edge) v → IsBelow v (value_of d u f.edge)
      → IsStrictlyIn d row j u v
  strictly_in row zero e f in_row rise between above under = absurd between
  strictly_in [] (suc i) e f in_row rise between above under = absurd (none-some e between.0)
  strictly_in (x ∷ []) (suc zero) e f in_row rise between above under = absurd (none-some f between.1)
  strictly_in (x ∷ y ∷ row) (suc zero) e f in_row rise between above under = (
    (subst (λ g. IsBelow (value_of d u g.edge) v) (sym (same_Some x e between.0)) above, tt),
    (
      y_above,
      all_above y row in_row.1 rise.1.0 y_above,
    ),
  )
    where
      y_above : IsBelow v (value_of d u y.edge)
      y_above = subst (λ g. IsBelow v (value_of d u g.edge)) (sym (same_Some y f between.1)) under
  strictly_in (x ∷ row) (suc (suc i)) e f in_row rise between above under =
      let rest = strictly_in row (suc i) e f in_row.1 rise.1 between above under in
      let e_there = stands_at row i e between.0 in (
        (
          at_most_below_trans (value x) (value e) v in_row.0
              (all_stands (λ g. IsRational (value_of d u g.edge)) e row in_row.1 e_there) v_in
              (all_stands (λ g. IsAtMost (value_of d u x.edge) (value_of d u g.edge)) e row rise.0 e_there)
              above,
          rest.0,
        ),
        rest.1,
      )

-- ---- by places

-- what holds of the edges at places holds of the edge at each
by_places : (edges : List PlanEdge) (P : PlanEdge → Type 0) (ks : List ℕ) → HaveEdges edges ks
    → AllByRecursion P (edges_at edges ks)
    → AllByRecursion (λ k. (e : PlanEdge) × ((slice_get edges k ≡ Some e) × P e)) ks
by_places edges P [] have all = tt
by_places edges P (k ∷ ks) have all =
    from have.0 (by_places edges P ks have.1)
  where
    from : (e : PlanEdge) × (slice_get edges k ≡ Some e)
        → (AllByRecursion P (edges_at edges ks)
        → AllByRecursion (λ k. (e : PlanEdge) × ((slice_get edges k ≡ Some e) × P e)) ks)
        → ((e : PlanEdge) × ((slice_get edges k ≡ Some e) × P e))
        × AllByRecursion (λ k. (e : PlanEdge) × ((slice_get edges k ≡ Some e) × P e)) ks
    from (e, there) rest =
        let parts = subst (λ o. AllByRecursion P (with_one o (edges_at edges ks))) there all in
        ((e, (there, parts.0)), rest parts.1)

-- an edge exists at each of the first places, and at each behind them
have_take : (edges : List PlanEdge) (ks : List ℕ) (j : ℕ) → HaveEdges edges ks
    → HaveEdges edges (take j ks)
have_take edges [] zero have = tt
have_take edges [] (suc j) have = tt
have_take edges (k ∷ ks) zero have = tt
have_take edges (k ∷ ks) (suc j) have = (have.0, have_take edges ks j have.1)

have_drop : (edges : List PlanEdge) (ks : List ℕ) (j : ℕ) → HaveEdges edges ks
    → HaveEdges edges (drop j ks)
have_drop edges [] zero have = tt
have_drop edges [] (suc j) have = tt
have_drop edges (k ∷ ks) zero have = have
have_drop edges (k ∷ ks) (suc j) have = have_drop edges ks j have.1

-- the edges at the places behind the first are the edges behind the first
edges_at-drop : (edges : List PlanEdge) (places : List ℕ) → HaveEdges edges places → (j : ℕ)
    → edges_at edges (drop j places) ≡ drop j (edges_at edges places)
edges_at-drop edges [] have zero = refl
edges_at-drop edges [] have (suc j) = refl
edges_at-drop edges (k ∷ places) have zero = refl
edges_at-drop edges (k ∷ places) have (suc j) = by have.0 (edges_at-drop edges places have.1 j)
  where
    by : (e : PlanEdge) × (slice_get edges k ≡ Some e)
        → edges_at edges (drop j places) ≡ drop j (edges_at edges places)
        → edges_at edges (drop j places)
        ≡ drop (suc j) (with_one (slice_get edges k) (edges_at edges places))
    by (e, there) rest =
        rest ∙ ap (λ o. drop (suc j) (with_one o (edges_at edges places))) (sym there)

-- ---- over a slab

module _ (m : Building) (valid : IsTrue (is_building m)) (low high : Arrow)
    (slab : IsSlab m along_x low high) (order : List ℕ)
    (is : IsSlabOrder (plan_edges m) along_x low high order) (p : Spot) (p_is : IsSpot p)
    (after : IsBelow low (abscissa_in along_x p)) (before : IsBelow (abscissa_in along_x p) high) where
  abbrev u : Arrow
  u = abscissa_in along_x p

  abbrev v : Arrow
  v = ordinate_of (in_frame along_x p)

  abbrev row : List PlanEdge
  row = edges_at (plan_edges m) order

  over_row : IsRowOver m along_x (abscissa_in along_x p) (edges_at (plan_edges m) order)
  over_row =
      order_is_row m along_x low high slab order is (abscissa_in along_x p) p_is
      (at_most_from_below low (abscissa_in along_x p) after) before

  have : HaveEdges (plan_edges m) order
  have = have_edges m valid low high slab order is

  abbrev IsOver : PlanEdge → Type 0
  IsOver e = Stands e (plan_edges m) × (reaches_past along_x (abscissa_in along_x p) e.edge ≡ true)

  rational : (e : PlanEdge) → IsOver e
      → IsRational (value_of along_x (abscissa_in along_x p) e.edge)
  rational e over =
      value_on-IsRational (line_over along_x e.edge) u
      (reaching_is_line along_x (abscissa_in along_x p) e.edge over.1) p_is

  -- between the lines of the two edges beside a gap
  pub strictly : (j : ℕ) (e f : PlanEdge) → IsBetween (edges_at (plan_edges m) order) j e f
      → IsBelow (value_of along_x (abscissa_in along_x p) e.edge) (ordinate_of (in_frame along_x p))
      → IsBelow (ordinate_of (in_frame along_x p)) (value_of along_x (abscissa_in along_x p) f.edge)
      → IsStrictlyIn along_x (edges_at (plan_edges m) order) j (abscissa_in along_x p)
      (ordinate_of (in_frame along_x p))
  strictly j e f between above under =
      strictly_in along_x u p_is v p_is row j e f
      (all_follow {P = IsOver} {Q = λ g. IsRational (value_of along_x (abscissa_in along_x p) g.edge)}
      rational row over_row.over)
      over_row.rise between above under

  module _ (j : ℕ)
      (there : IsStrictlyIn along_x (edges_at (plan_edges m) order) j (abscissa_in along_x p)
      (ordinate_of (in_frame along_x p))) where
    first_over : AllByRecursion IsOver (take j (edges_at (plan_edges m) order))
        × AllByRecursion IsOver (drop j (edges_at (plan_edges m) order))
    first_over = parts_of j row over_row.over
      where
        parts_of : (j : ℕ) (es : List PlanEdge) → AllByRecursion IsOver es
            → AllByRecursion IsOver (take j es) × AllByRecursion IsOver (drop j es)
        parts_of zero [] all = (tt, tt)
        parts_of (suc j) [] all = (tt, tt)
        parts_of zero (x ∷ xs) all = (tt, all)
        parts_of (suc j) (x ∷ xs) all =
            let rest = parts_of j xs all.1 in ((all.0, rest.0), rest.1)

    -- it lies in the gap
    pub in_gap : IsGapOf m along_x low high order p j
    in_gap = record {
      after = at_most_from_below low u after;
      before = before;
      parts =
          record {
            first =
                all_follow
                {P = λ k. (e : PlanEdge) × ((slice_get (plan_edges m) k ≡ Some e)
                × (IsOver e × IsBelow (value_of along_x u e.edge) v))}
                {Q = λ k. is_lower_place (plan_edges m) along_x u v k ≡ true}
                (λ k at.
                ap (has_passing (λ e. is_lower_at along_x u v e.edge)) at.1.0
                ∙ and_from (reaches_past along_x u at.0.edge)
                (is_below (value_of along_x u at.0.edge) v) at.1.1.0.1
                (test_less (pos 0) (cross (value_of along_x u at.0.edge) v) at.1.1.1))
                (take j order)
                (by_places (plan_edges m)
                (λ e. IsOver e × IsBelow (value_of along_x u e.edge) v) (take j order)
                (have_take (plan_edges m) order j have)
                (subst (AllByRecursion (λ e. IsOver e × IsBelow (value_of along_x u e.edge) v))
                (sym (edges_at-take (plan_edges m) order have j))
                (both IsOver (λ e. IsBelow (value_of along_x u e.edge) v) (take j row) first_over.0
                there.0)));
            rest =
                all_follow
                {P = λ k. (e : PlanEdge) × ((slice_get (plan_edges m) k ≡ Some e)
                × (IsOver e × IsBelow v (value_of along_x u e.edge)))}
                {Q = λ k. is_lower_place (plan_edges m) along_x u v k ≡ false}
                (λ k at.
                ap (has_passing (λ e. is_lower_at along_x u v e.edge)) at.1.0
                ∙ not_both (reaches_past along_x u at.0.edge)
                (is_below (value_of along_x u at.0.edge) v)
                (let turn = cross-turn v (value_of along_x u at.0.edge) in
                let more = at.1.1.1 in
                test_not_less (pos 0) (cross (value_of along_x u at.0.edge) v) (omega (arith, ints))))
                (drop j order)
                (by_places (plan_edges m)
                (λ e. IsOver e × IsBelow v (value_of along_x u e.edge)) (drop j order)
                (have_drop (plan_edges m) order j have)
                (subst (AllByRecursion (λ e. IsOver e × IsBelow v (value_of along_x u e.edge)))
                (sym (edges_at-drop (plan_edges m) order have j))
                (both IsOver (λ e. IsBelow v (value_of along_x u e.edge)) (drop j row) first_over.1
                there.1)));
          };
    }
      where
        not_both : (a b : Bool) → b ≡ false → (a && b) ≡ false
        not_both true b none = none
        not_both false b none = refl

        both : (P Q : PlanEdge → Type 0) (es : List PlanEdge) → AllByRecursion P es
            → AllByRecursion Q es → AllByRecursion (λ e. P e × Q e) es
        both P Q [] first second = tt
        both P Q (e ∷ es) first second =
            ((first.0, second.0), both P Q es first.1 second.1)

    -- and on the line of no edge of the order
    pub off_line : (e : PlanEdge) → Stands e (edges_at (plan_edges m) order)
        → IsSame (value_of along_x (abscissa_in along_x p) e.edge) (ordinate_of (in_frame along_x p))
        → ⊥
    off_line e e_in same =
        parted j row there.0 there.1 e_in
      where
        parted : (j : ℕ) (es : List PlanEdge)
            → AllByRecursion (λ g. IsBelow (value_of along_x u g.edge) v) (take j es)
            → AllByRecursion (λ g. IsBelow v (value_of along_x u g.edge)) (drop j es)
            → Stands e es → ⊥
        parted zero [] first rest at = at
        parted (suc j) [] first rest at = at
        parted zero (g ∷ es) first rest at =
            let more =
            all_stands (λ g. IsBelow v (value_of along_x u g.edge)) e (g ∷ es) rest at
            in
            let turn = cross-turn v (value_of along_x u e.edge) in
            omega (arith, ints)
        parted (suc j) (g ∷ es) first rest (inl here) =
            let less =
            subst (λ h. IsBelow (value_of along_x u h.edge) v) (sym here) first.0 in
            omega (arith, ints)
        parted (suc j) (g ∷ es) first rest (inr later) = parted j es first.1 rest later

    -- nor on an edge of the model
    pub off_edge : (e : PlanEdge) → Stands e (plan_edges m) → is_on p e.edge ≡ false
    off_edge e e_in =
        false_from_ne_true (is_on p e.edge)
        (λ on.
        let reaches =
        reaches_if_on along_x p e.edge
        (no_end_over m along_x u x_is_way p_is (slab.none u p_is after before) e e_in) on
        in
        let turn = (and_parts (int_eq (turn_at e.edge p) (pos 0)) (int_le (reach_at e.edge p) (pos 0)) on).0 in
        off_line e
        (spanning_stands (plan_edges m) along_x low high order is e e_in
        (reaching_spans m along_x low high slab u p_is
        (at_most_from_below low u after) before e e_in reaches))
        ((on_is (line_over along_x e.edge) (in_frame along_x p) p_is).0
        (on_line_over along_x p e.edge x_is_way p_is ∙ turn)))

    -- so it lies inside exactly the products that are present there
    pub inside_present : (s : Space) → Stands s m.spaces
        → is_present (edges_before (plan_edges m) order j) s.number ≡ true
        → is_in_plan s.prism.loops p ≡ true
    inside_present s s_in present =
        has_presence m valid along_x low high x_is_way slab order is p p_is j in_gap (of_space s)
        (space_stands m s s_in)
        (false_from_ne_true (list_any (is_on p) (edges_of s.prism.loops))
        (λ any.
        let found = one_of_any (is_on p) (edges_of s.prism.loops) any in
        false≢true
        (sym
        (off_edge (plan_edge found.0 s.number)
        (edge_stands found.0 (of_space s) (products_of m) (space_stands m s s_in) found.1.0))
        ∙ found.1.1)))
        ∙ present
