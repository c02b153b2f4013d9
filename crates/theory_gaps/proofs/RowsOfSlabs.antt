-- The order of a slab, seen from a side outward, is a row of the edges over each number strictly inside.
use Rattle.std.proofs.Common.{◌≡◌, refl, sym, ap, ap₂, ◌∙◌, arith, subst, ◌⊎◌, inl, inr, ℕ, ℤ, pos, neg_ℤ}
use Rattle.std.proofs.Common.{◌*ℤ◌, ◌<ℤ◌, Bool, true, false, not, ◌&&◌, cond, List, [], ◌∷◌, ◌++◌, reverse}
use Rattle.std.proofs.Common.{Option, Some, None, slice_get}
use Rattle.std.proofs.Common.{◌+ℤ◌}
use Rattle.std.proofs.Common.{◌≤ℤ◌}
use Rattle.std.proofs.Common.{zero}
use Rattle.std.proofs.Common.{suc}
use Rattle.std.specs.List.{AllByRecursion}
use Rattle.std.proofs.lemmas.Int.{ints}
use Rattle.std.proofs.lemmas.Bool.{false≢true}
use Rattle.std.proofs.lemmas.Bool.{or_parts}
use Rattle.theory_lists.specs.Members.{Stands, AllOfTwo}
use Rattle.theory_lists.specs.Parity.{differ, is_odd_number}
use Rattle.theory_lists.proofs.Members.{all_follow, all_stands}
use Rattle.theory_lists.proofs.Members.{all_that_stand}
use Rattle.theory_lists.proofs.Members.{two_follow}
use Rattle.theory_lists.proofs.Members.{stands_at}
use Rattle.theory_lists.proofs.Parity.{odd_where_same}
use Rattle.theory_lists.proofs.Parity.{is_odd_number-append}
use Rattle.theory_lists.proofs.Parity.{differ-false}
use Rattle.theory_lists.proofs.Parity.{differ_comm}
use Rattle.theory_numbers.specs.Arrows.{Arrow, arrow, opposite, mirror, cross, dot}
use Rattle.theory_numbers.specs.Tests.{is_positive}
use Rattle.theory_numbers.specs.Rationals.{IsRational, IsBelow, IsAtMost, rational}
use Rattle.theory_numbers.proofs.Vectors.Arrows.{cross-mirror}
use Rattle.theory_numbers.proofs.Vectors.Arrows.{opposite-dot}
use Rattle.theory_numbers.proofs.Vectors.Arrows.{dot-opposite}
use Rattle.theory_numbers.proofs.Vectors.Arrows.{opposite-cross}
use Rattle.theory_numbers.proofs.Vectors.Arrows.{cross-opposite}
use Rattle.theory_numbers.proofs.Vectors.Arrows.{same_arrow}
use Rattle.theory_numbers.proofs.Fractions.Rationals.{at_most_from_below}
use Rattle.theory_plane.specs.Sides.{value_on}
use Rattle.theory_plane.specs.Sides.{line}
use Rattle.theory_plane.specs.Sides.{IsLineSide}
use Rattle.theory_plane.proofs.Clearance.{at_least_is}
use Rattle.sb_fraction.specs.declared.point.Point.{Point}
use Rattle.sb_fraction.specs.Edges.{Edge, span_of}
use Rattle.sb_fraction.specs.Crossings.{abscissa_at, ends_over}
use Rattle.sb_fraction.specs.Lines.{flat, line_over, span_along, place, lies_after, reaches_past}
use Rattle.sb_model.specs.Building.{Building}
use Rattle.sb_model.specs.PlanEdges.{PlanEdge, plan_edges, is_abscissa}
use Rattle.theory_parity.specs.Below.{IsWay, value_of}
use Rattle.theory_lines.specs.Slabs.{IsSlab, IsSlabOrder, is_spanning, has_passing, IsNotAbove}
use Rattle.theory_lines.specs.Slabs.{spanning_places}
use Rattle.theory_lines.proofs.EdgesOverASlab.{reaching_spans, spanning_reaches}
use Rattle.theory_lines.proofs.OddBelowAPoint.{odd_in_order}
use Rattle.theory_lines.proofs.SlabOrderIsOne.{spans_at}
use Rattle.theory_lines.proofs.SlabOrderIsOne.{place_of_spanning}
use Rattle.theory_lines.proofs.SortedByValues.{sorted_to_ends}
use Rattle.theory_gaps.specs.Gaps.{with_one, edges_at}
use Rattle.std.proofs.lemmas.List.{reverse-append}
use Rattle.std.proofs.lemmas.List.{append-nil}
use Rattle.theory_lists.proofs.Blocks.{all-append}
use Rattle.theory_lists.proofs.Blocks.{two-append}
use Rattle.theory_lists.proofs.Blocks.{stands_before}
use Rattle.theory_lists.proofs.Blocks.{stands_behind}
use Rattle.theory_lists.proofs.InAnyOrder.{stands_permuted}
use Rattle.theory_numbers.proofs.Signs.{same_tests}
use Rattle.theory_numbers.proofs.Signs.{sign_cases}
use Rattle.theory_numbers.proofs.Signs.{test_less}
use Rattle.theory_numbers.proofs.Signs.{test_not_less}
use Rattle.theory_numbers.proofs.Shapes.{var}
use Rattle.theory_numbers.proofs.Shapes.{num}
use Rattle.theory_numbers.proofs.Shapes.{plus}
use Rattle.theory_numbers.proofs.Shapes.{times}
use Rattle.theory_numbers.proofs.Shapes.{negated}
use Rattle.theory_numbers.proofs.Shapes.{equal}
use Rattle.theory_numbers.proofs.Shapes.{cross_by}
use Rattle.std.specs.Ordering.{int_eq}
use Rattle.std.proofs.lemmas.Bool.Decides.{Decides-int_eq}
use Rattle.theory_parity.proofs.Rays.BelowFlips.{reaching_is_line}
use Rattle.theory_gaps.proofs.EdgesAtANumber.{no_end_over}
use Rattle.std.proofs.lemmas.List.Sorted.{IsPermutation-sym}

-- ---- edges at places

-- a test of the edges at some places is one of the places
pub odd-edges_at : (edges : List PlanEdge) (test : PlanEdge → Bool) (places : List ℕ)
    → is_odd_number test (edges_at edges places)
    ≡ is_odd_number (λ k. has_passing test (slice_get edges k)) places
odd-edges_at edges test [] = refl
odd-edges_at edges test (k ∷ places) = by (slice_get edges k) (odd-edges_at edges test places)
  where
    by : (o : Option PlanEdge)
        → is_odd_number test (edges_at edges places)
        ≡ is_odd_number (λ i. has_passing test (slice_get edges i)) places
        → is_odd_number test (with_one o (edges_at edges places))
        ≡ differ (has_passing test o)
        (is_odd_number (λ i. has_passing test (slice_get edges i)) places)
    by None rest = rest
    by (Some e) rest = ap (differ (test e)) rest

-- what holds of the edge at each place holds of these edges
pub all_edges_at : (edges : List PlanEdge) (P : PlanEdge → Type 0) (places : List ℕ)
    → AllByRecursion (λ k. (e : PlanEdge) → slice_get edges k ≡ Some e → P e) places
    → AllByRecursion P (edges_at edges places)
all_edges_at edges P [] all = tt
all_edges_at edges P (k ∷ places) all =
    by (slice_get edges k) refl (all_edges_at edges P places all.1)
  where
    by : (o : Option PlanEdge) → slice_get edges k ≡ o → AllByRecursion P (edges_at edges places)
        → AllByRecursion P (with_one o (edges_at edges places))
    by None found rest = rest
    by (Some e) found rest = (all.0 e found, rest)

-- and what holds of each two
two_edges_at : (edges : List PlanEdge) (R : PlanEdge → PlanEdge → Type 0) (places : List ℕ)
    → AllOfTwo
    (λ i j. (e f : PlanEdge) → slice_get edges i ≡ Some e → slice_get edges j ≡ Some f → R e f) places
    → AllOfTwo R (edges_at edges places)
two_edges_at edges R [] all = tt
two_edges_at edges R (k ∷ places) all =
    by (slice_get edges k) refl (two_edges_at edges R places all.1)
  where
    by : (o : Option PlanEdge) → slice_get edges k ≡ o → AllOfTwo R (edges_at edges places)
        → AllOfTwo R (with_one o (edges_at edges places))
    by None found rest = rest
    by (Some e) found rest = (
      all_edges_at edges (R e) places
          (all_follow
          {P = λ j. (a b : PlanEdge) → slice_get edges k ≡ Some a → slice_get edges j ≡ Some b → R a b}
          {Q = λ j. (b : PlanEdge) → slice_get edges j ≡ Some b → R e b}
          (λ j at b there. at e b found there) places all.0),
      rest,
    )

-- the edges at places read backwards are those edges backwards
pub edges_at-reverse : (edges : List PlanEdge) (places : List ℕ)
    → edges_at edges (reverse places) ≡ reverse (edges_at edges places)
edges_at-reverse edges [] = refl
edges_at-reverse edges (k ∷ places) =
    ap (edges_at edges) (reverse-append (k ∷ []) places)
    ∙ edges_at-append edges (reverse places) (k ∷ [])
    ∙ ap (λ es. es ++ edges_at edges (k ∷ [])) (edges_at-reverse edges places)
    ∙ by (slice_get edges k) (edges_at edges places)
  where
    edges_at-append : (edges : List PlanEdge) (xs ys : List ℕ)
        → edges_at edges (xs ++ ys) ≡ edges_at edges xs ++ edges_at edges ys
    edges_at-append edges [] ys = refl
    edges_at-append edges (x ∷ xs) ys = of (slice_get edges x) (edges_at-append edges xs ys)
      where
        of : (o : Option PlanEdge) → edges_at edges (xs ++ ys) ≡ edges_at edges xs ++ edges_at edges ys
            → with_one o (edges_at edges (xs ++ ys))
            ≡ with_one o (edges_at edges xs) ++ edges_at edges ys
        of None rest = rest
        of (Some e) rest = ap (λ es. e ∷ es) rest

    by : (o : Option PlanEdge) (es : List PlanEdge)
        → reverse es ++ with_one o [] ≡ reverse (with_one o es)
    by None es = append-nil (reverse es)
    by (Some e) es = sym (reverse-append (e ∷ []) es)

-- an edge stands among those at places where its place is one of them
pub edge_at_stands : (edges : List PlanEdge) (k : ℕ) (e : PlanEdge) (places : List ℕ)
    → slice_get edges k ≡ Some e → Stands k places → Stands e (edges_at edges places)
edge_at_stands edges k e [] there k_in = absurd k_in
edge_at_stands edges k e (j ∷ places) there (inl here) =
    subst (λ o. Stands e (with_one o (edges_at edges places)))
    (sym (ap (slice_get edges) (sym here) ∙ there)) (inl refl)
edge_at_stands edges k e (j ∷ places) there (inr later) =
    by (slice_get edges j) (edge_at_stands edges k e places there later)
  where
    by : (o : Option PlanEdge) → Stands e (edges_at edges places)
        → Stands e (with_one o (edges_at edges places))
    by None rest = rest
    by (Some f) rest = inr rest

-- what stands in a list has a place
pub place_of : {X : Type 0} (x : X) (xs : List X) → Stands x xs
    → (k : ℕ) × (slice_get xs k ≡ Some x)
place_of x [] there = absurd there
place_of x (y ∷ ys) (inl same) = (zero, ap Some (sym same))
place_of x (y ∷ ys) (inr later) = let rest = place_of x ys later in (suc rest.0, rest.1)

-- an edge of the model that spans the slab stands in its order
pub spanning_stands : (edges : List PlanEdge) (d low high : Arrow) (order : List ℕ)
    → IsSlabOrder edges d low high order → (e : PlanEdge) → Stands e edges
    → is_spanning d low high e.edge ≡ true → Stands e (edges_at edges order)
spanning_stands edges d low high order is e e_in spans =
    let place = place_of e edges e_in in
    edge_at_stands edges place.0 e order place.1
    (stands_permuted place.0 (spanning_places edges d low high) order
    (IsPermutation-sym order (spanning_places edges d low high) is.spanning)
    (place_of_spanning edges d low high place.0 e place.1 spans))

-- ---- lists turned round

-- what stands in a list stands in it turned round
pub stands-reverse : {X : Type 0} (x : X) (xs : List X) → Stands x xs → Stands x (reverse xs)
stands-reverse x [] there = absurd there
stands-reverse x (y ∷ ys) there =
    subst (Stands x) (sym (reverse-append (y ∷ []) ys)) (by there (stands-reverse x ys))
  where
    by : Stands x (y ∷ ys) → (Stands x ys → Stands x (reverse ys)) → Stands x (reverse ys ++ (y ∷ []))
    by (inl same) rest = stands_behind x (reverse ys) (y ∷ []) (inl same)
    by (inr later) rest = stands_before x (reverse ys) (y ∷ []) (rest later)

odd-reverse : {X : Type 0} (test : X → Bool) (xs : List X)
    → is_odd_number test (reverse xs) ≡ is_odd_number test xs
odd-reverse test [] = refl
odd-reverse test (x ∷ xs) =
    ap (is_odd_number test) (reverse-append (x ∷ []) xs)
    ∙ is_odd_number-append test (reverse xs) (x ∷ [])
    ∙ ap₂ differ (odd-reverse test xs) (differ-false (test x))
    ∙ differ_comm (is_odd_number test xs) (test x)

all-reverse : {X : Type 0} (P : X → Type 0) (xs : List X) → AllByRecursion P xs
    → AllByRecursion P (reverse xs)
all-reverse P [] all = tt
all-reverse P (x ∷ xs) all =
    subst (AllByRecursion P) (sym (reverse-append (x ∷ []) xs))
    (all-append P (reverse xs) (x ∷ []) (all-reverse P xs all.1) (all.0, tt))

two-reverse : {X : Type 0} (R : X → X → Type 0) (xs : List X) → AllOfTwo R xs
    → AllOfTwo (λ x y. R y x) (reverse xs)
two-reverse R [] two = tt
two-reverse R (x ∷ xs) two =
    subst (AllOfTwo (λ a b. R b a)) (sym (reverse-append (x ∷ []) xs))
    (two-append (λ a b. R b a) (reverse xs) (x ∷ []) (two-reverse R xs two.1) (tt, tt)
    (all_follow {P = λ y. R x y} {Q = λ y. AllByRecursion (λ b. R b y) (x ∷ [])}
    (λ y at. (at, tt)) (reverse xs) (all-reverse (R x) xs two.0)))

-- ---- rows over a number

-- the edges of a model that reach past a number, in rising order of their values
pub record IsRowOver (m : Building) (d u : Arrow) (edges : List PlanEdge) : Type 0 where
  pub whole : (test : PlanEdge → Bool)
      → is_odd_number test edges
      ≡ is_odd_number (λ e. reaches_past d u e.edge && test e) (plan_edges m)
  pub over : AllByRecursion (λ e. Stands e (plan_edges m) × (reaches_past d u e.edge ≡ true)) edges
  pub rise : AllOfTwo (λ e f. IsAtMost (value_of d u e.edge) (value_of d u f.edge)) edges

-- the edges of the order of a slab are a row over each number of the slab
pub order_is_row : (m : Building) (d low high : Arrow) → IsSlab m d low high → (order : List ℕ)
    → IsSlabOrder (plan_edges m) d low high order → (u : Arrow) → IsRational u → IsAtMost low u
    → IsBelow u high → IsRowOver m d u (edges_at (plan_edges m) order)
order_is_row m d low high slab order is u u_in after before = record {
  whole =
      λ test.
      odd-edges_at (plan_edges m) test order
      ∙ odd_in_order (plan_edges m) d low high order is test
      ∙ odd_where_same (λ e. is_spanning d low high e.edge && test e)
      (λ e. reaches_past d u e.edge && test e) (plan_edges m)
      (all_that_stand
      (λ e. (is_spanning d low high e.edge && test e) ≡ (reaches_past d u e.edge && test e))
      (plan_edges m) (λ e e_in. ap (λ b. b && test e) (spans_or_not e e_in)));
  over =
      all_edges_at (plan_edges m)
      (λ e. Stands e (plan_edges m) × (reaches_past d u e.edge ≡ true)) order
      (all_that_stand
      (λ k.
      (e : PlanEdge) → slice_get (plan_edges m) k ≡ Some e
      → Stands e (plan_edges m) × (reaches_past d u e.edge ≡ true)) order
      (λ k k_in e there. (
        stands_at (plan_edges m) k e there,
        reaches e (spans k k_in e there),
      )));
  rise =
      two_edges_at (plan_edges m)
      (λ e f. IsAtMost (value_of d u e.edge) (value_of d u f.edge)) order
      (two_follow (IsNotAbove (plan_edges m) d u)
      (λ i j.
      (e f : PlanEdge) → slice_get (plan_edges m) i ≡ Some e → slice_get (plan_edges m) j ≡ Some f
      → IsAtMost (value_of d u e.edge) (value_of d u f.edge)) order
      (λ i j at_i at_j least e f at_e at_f.
      (at_least_is (line_over d e.edge) (line_over d f.edge) u u_in).1 (least e f at_e at_f))
      (sorted_to_ends (plan_edges m) d low high slab.low_in slab.high_in slab.wide order is u u_in after
      (at_most_from_below u high before)));
}
  where
    reaches : (e : PlanEdge) → is_spanning d low high e.edge ≡ true
        → reaches_past d u e.edge ≡ true
    reaches e spans =
        spanning_reaches d low high u slab.low_in slab.high_in u_in e.edge spans after before

    spans_or_not : (e : PlanEdge) → Stands e (plan_edges m)
        → is_spanning d low high e.edge ≡ reaches_past d u e.edge
    spans_or_not e e_in =
        same_tests (is_spanning d low high e.edge) (reaches_past d u e.edge) (reaches e)
        (reaching_spans m d low high slab u u_in after before e e_in)

    spans : (k : ℕ) → Stands k order → (e : PlanEdge) → slice_get (plan_edges m) k ≡ Some e
        → is_spanning d low high e.edge ≡ true
    spans k k_in e there =
        let at =
        spans_at (plan_edges m) d low high k
        (stands_permuted k order (spanning_places (plan_edges m) d low high) is.spanning k_in)
        in
        let same : Some at.edge ≡ Some e = sym at.there ∙ there in
        let one : at.edge ≡ e = cc in
        subst (λ (f : PlanEdge). is_spanning d low high f.edge ≡ true) one at.spans

-- ---- the other way round

-- over the opposite direction an edge reaches past the same number where it ends at none
reaches_turned : (d u : Arrow) (e : Edge) → ends_over (flat d) u e ≡ false
    → reaches_past (opposite d) (mirror u) e ≡ reaches_past d u e
reaches_turned d u e none =
    let ends =
    or_parts (int_eq (cross u (rational (abscissa_at e.a (flat d)) (pos 1))) (pos 0))
    (int_eq (cross u (rational (abscissa_at e.b (flat d)) (pos 1))) (pos 0)) none
    in
    ap₂ differ (turned e.a ends.0) (turned e.b ends.1)
    ∙ table (lies_after d u e.a) (lies_after d u e.b)
  where
    table : (s t : Bool) → differ (not s) (not t) ≡ differ s t
    table true true = refl
    table true false = refl
    table false true = refl
    table false false = refl

    turned : (a : Point)
        → int_eq (cross u (rational (abscissa_at a (flat d)) (pos 1))) (pos 0) ≡ false
        → lies_after (opposite d) (mirror u) a ≡ not (lies_after d u a)
    turned a apart =
        ap is_positive whole
        ∙ by (sign_cases (cross u (rational (abscissa_at a (flat d)) (pos 1))))
      where
        at : ℤ
        at = cross u (rational (abscissa_at a (flat d)) (pos 1))

        whole : cross (mirror u) (rational (abscissa_at a (flat (opposite d))) (pos 1)) ≡ neg_ℤ at
        whole =
            equal
            (cross_by (mirror u) (rational (abscissa_at a (flat (opposite d))) (pos 1)) (var u.x)
            (negated (var u.y)) (num 1)
            (plus (times (var a.x) (negated (var d.x))) (times (var a.y) (negated (var d.y)))))
            (negated
            (cross_by u (rational (abscissa_at a (flat d)) (pos 1)) (var u.x) (var u.y) (num 1)
            (plus (times (var a.x) (var d.x)) (times (var a.y) (var d.y))))) (omega arith)

        by : ((pos 0 <ℤ at) ⊎ (at ≡ pos 0)) ⊎ (at <ℤ pos 0)
            → is_positive (neg_ℤ at) ≡ not (is_positive at)
        by (inl (inl more)) =
            test_not_less (pos 0) (neg_ℤ at) (omega (arith, ints))
            ∙ ap not (sym (test_less (pos 0) at more))
        by (inl (inr there)) =
            absurd (false≢true (sym apart ∙ (Decides-int_eq at (pos 0)).1 there))
        by (inr less) =
            test_less (pos 0) (neg_ℤ at) (omega (arith, ints))
            ∙ ap not (sym (test_not_less (pos 0) at (omega (arith, ints))))

neg-neg : (n : ℤ) → neg_ℤ (neg_ℤ n) ≡ n
neg-neg n = omega (arith, ints)

-- and has the opposite value
value_turned : (d u : Arrow) (e : Edge) → IsLineSide (line_over d e)
    → value_of (opposite d) (mirror u) e ≡ mirror (value_of d u e)
unfolding span_along value_on
value_turned d u e is = by (sign_cases (dot d (span_of e)))
  where
    gathered : (dy dd c ux uy : ℤ)
        → (dy *ℤ neg_ℤ uy) +ℤ ((dd *ℤ neg_ℤ c) *ℤ ux)
        ≡ neg_ℤ ((dy *ℤ uy) +ℤ ((dd *ℤ c) *ℤ ux))
    gathered dy dd c ux uy =
        equal
        (plus (times (var dy) (negated (var uy))) (times (times (var dd) (negated (var c))) (var ux)))
        (negated (plus (times (var dy) (var uy)) (times (times (var dd) (var c)) (var ux))))
        (omega arith)

    over : (s t : Arrow) → t ≡ opposite s
        → value_on
        (line (dot (opposite d) t) (cross (opposite d) t)
        (dot (opposite d) (opposite d) *ℤ cross t (place e.a))) (mirror u)
        ≡ mirror (value_on (line (dot d s) (cross d s) (dot d d *ℤ cross s (place e.a))) u)
    over s t same =
        ap
        (λ r.
        value_on
        (line (dot (opposite d) r) (cross (opposite d) r)
        (dot (opposite d) (opposite d) *ℤ cross r (place e.a))) (mirror u)) same
        ∙ ap₂ arrow
        (ap (λ k. k *ℤ u.x)
        (opposite-dot d (opposite s) ∙ ap neg_ℤ (dot-opposite d s) ∙ neg-neg (dot d s)))
        (ap₂ (λ k j. (k *ℤ neg_ℤ u.y) +ℤ (j *ℤ u.x))
        (opposite-cross d (opposite s) ∙ ap neg_ℤ (cross-opposite d s) ∙ neg-neg (cross d s))
        (ap₂ (λ k j. k *ℤ j)
        (opposite-dot d (opposite d) ∙ ap neg_ℤ (dot-opposite d d) ∙ neg-neg (dot d d))
        (opposite-cross s (place e.a)))
        ∙ gathered (cross d s) (dot d d) (cross s (place e.a)) u.x u.y)

    of_tests : (s t : Bool) → is_positive (dot d (span_of e)) ≡ s
        → is_positive (dot (opposite d) (span_of e)) ≡ t
        → cond t (span_of e) (opposite (span_of e)) ≡ opposite (cond s (span_of e) (opposite (span_of e)))
        → value_on
        (line
        (dot (opposite d)
        (cond (is_positive (dot (opposite d) (span_of e))) (span_of e) (opposite (span_of e))))
        (cross (opposite d)
        (cond (is_positive (dot (opposite d) (span_of e))) (span_of e) (opposite (span_of e))))
        (dot (opposite d) (opposite d)
        *ℤ cross
        (cond (is_positive (dot (opposite d) (span_of e))) (span_of e) (opposite (span_of e)))
        (place e.a))) (mirror u)
        ≡ mirror
        (value_on
        (line (dot d (cond (is_positive (dot d (span_of e))) (span_of e) (opposite (span_of e))))
        (cross d (cond (is_positive (dot d (span_of e))) (span_of e) (opposite (span_of e))))
        (dot d d
        *ℤ cross (cond (is_positive (dot d (span_of e))) (span_of e) (opposite (span_of e)))
        (place e.a))) u)
    of_tests s t first second same =
        over (cond (is_positive (dot d (span_of e))) (span_of e) (opposite (span_of e)))
        (cond (is_positive (dot (opposite d) (span_of e))) (span_of e) (opposite (span_of e)))
        (ap (λ b. cond b (span_of e) (opposite (span_of e))) second ∙ same
        ∙ ap (λ b. opposite (cond b (span_of e) (opposite (span_of e)))) (sym first))

    twice : (a : Arrow) → a ≡ opposite (opposite a)
    twice a = same_arrow a (opposite (opposite a)) (sym (neg-neg a.x)) (sym (neg-neg a.y))

    by : ((pos 0 <ℤ dot d (span_of e)) ⊎ (dot d (span_of e) ≡ pos 0)) ⊎ (dot d (span_of e) <ℤ pos 0)
        → value_of (opposite d) (mirror u) e ≡ mirror (value_of d u e)
    by (inl (inl more)) =
        of_tests true false (test_less (pos 0) (dot d (span_of e)) more)
        (test_not_less (pos 0) (dot (opposite d) (span_of e))
        (let n = opposite-dot d (span_of e) in omega (arith, ints))) refl
    by (inr less) =
        of_tests false true (test_not_less (pos 0) (dot d (span_of e)) (omega (arith, ints)))
        (test_less (pos 0) (dot (opposite d) (span_of e))
        (let n = opposite-dot d (span_of e) in omega (arith, ints))) (twice (span_of e))
    by (inl (inr none)) = absurd (level (is_positive (dot d (span_of e))) is)
      where
        level : (b : Bool) → pos 0 <ℤ dot d (cond b (span_of e) (opposite (span_of e))) → ⊥
        level true more = omega (arith, ints, none)
        level false more = let n = dot-opposite d (span_of e) in omega (arith, ints, none)

-- a row read backwards is one over the opposite direction
pub row_turned : (m : Building) (d u : Arrow) → IsWay d → IsRational u
    → is_abscissa m (flat d) u ≡ false → (edges : List PlanEdge) → IsRowOver m d u edges
    → IsRowOver m (opposite d) (mirror u) (reverse edges)
row_turned m d u d_is u_in none edges is = record {
  whole =
      λ test.
      odd-reverse test edges ∙ is.whole test
      ∙ odd_where_same (λ e. reaches_past d u e.edge && test e)
      (λ e. reaches_past (opposite d) (mirror u) e.edge && test e) (plan_edges m)
      (all_that_stand
      (λ e.
      (reaches_past d u e.edge && test e)
      ≡ (reaches_past (opposite d) (mirror u) e.edge && test e))
      (plan_edges m) (λ e e_in. ap (λ b. b && test e) (sym (turned e e_in))));
  over =
      all-reverse
      (λ e. Stands e (plan_edges m) × (reaches_past (opposite d) (mirror u) e.edge ≡ true)) edges
      (all_follow
      {P = λ e. Stands e (plan_edges m) × (reaches_past d u e.edge ≡ true)}
      {Q = λ e. Stands e (plan_edges m) × (reaches_past (opposite d) (mirror u) e.edge ≡ true)}
      (λ e at. (at.0, turned e at.0 ∙ at.1)) edges is.over);
  rise =
      two-reverse
      (λ e f.
      IsAtMost (value_of (opposite d) (mirror u) f.edge) (value_of (opposite d) (mirror u) e.edge))
      edges
      (two_follow (λ e f. IsAtMost (value_of d u e.edge) (value_of d u f.edge))
      (λ e f.
      IsAtMost (value_of (opposite d) (mirror u) f.edge) (value_of (opposite d) (mirror u) e.edge))
      edges (λ e f e_in f_in least. exchanged e f e_in f_in least) is.rise);
}
  where
    turned : (e : PlanEdge) → Stands e (plan_edges m)
        → reaches_past (opposite d) (mirror u) e.edge ≡ reaches_past d u e.edge
    turned e e_in = reaches_turned d u e.edge (no_end_over m d u d_is u_in none e e_in)

    value_is : (e : PlanEdge) → Stands e edges
        → value_of (opposite d) (mirror u) e.edge ≡ mirror (value_of d u e.edge)
    value_is e e_in =
        value_turned d u e.edge
        (reaching_is_line d u e.edge
        ((all_stands (λ f. Stands f (plan_edges m) × (reaches_past d u f.edge ≡ true)) e edges is.over
        e_in).1))

    exchanged : (e f : PlanEdge) → Stands e edges → Stands f edges
        → IsAtMost (value_of d u e.edge) (value_of d u f.edge)
        → IsAtMost (value_of (opposite d) (mirror u) f.edge) (value_of (opposite d) (mirror u) e.edge)
    exchanged e f e_in f_in least =
        subst (λ k. pos 0 ≤ℤ k)
        (sym
        (ap₂ cross (value_is f f_in) (value_is e e_in)
        ∙ cross-mirror (value_of d u f.edge) (value_of d u e.edge))) least
