-- An edge of a model spans a slab exactly where it reaches past a number of it, be it any but the last;
-- and an edge that spans ends at no number strictly inside.

use Rattle.std.proofs.Common.{◌≡◌, ◌⊎◌, inl, inr, refl, sym, ◌∙◌, arith, pos, Bool, true}
use Rattle.std.proofs.Common.{false, ◌||◌}
use Rattle.std.specs.Ordering.{int_eq}
use Rattle.std.specs.List.{list_any}
use Rattle.std.proofs.lemmas.Int.{ints}
use Rattle.std.proofs.lemmas.Bool.{and_parts, and_from, or_cases, or_left, or_right}
use Rattle.std.proofs.lemmas.Bool.{false≢true}
use Rattle.std.proofs.lemmas.Bool.Decides.{Decides-int_eq}
use Rattle.theory_lists.specs.Members.{Stands}
use Rattle.theory_lists.specs.Parity.{differ}
use Rattle.theory_lists.proofs.Members.{any_stands}
use Rattle.theory_numbers.specs.Arrows.{Arrow, cross}
use Rattle.theory_numbers.specs.Rationals.{IsRational, IsBelow, IsAtMost, is_at_most}
use Rattle.theory_numbers.proofs.Vectors.Arrows.{cross-self, cross-turn}
use Rattle.theory_numbers.proofs.Fractions.Rationals.{at_most_trans, below_at_most_trans, below_or_not}
use Rattle.theory_numbers.proofs.Fractions.Rationals.{at_most_below_trans}
use Rattle.theory_numbers.proofs.Signs.{less_from, not_less_from, test_less, test_not_less}
use Rattle.theory_numbers.proofs.Signs.{test_at_most, at_most_from, test_not_equal}
use Rattle.sb_fraction.specs.declared.point.Point.{Point}
use Rattle.sb_fraction.specs.Edges.{Edge}
use Rattle.sb_fraction.specs.Crossings.{ends_over, cross_over}
use Rattle.sb_fraction.specs.Lines.{flat, lies_after, reaches_past}
use Rattle.sb_model.specs.Building.{Building}
use Rattle.sb_model.specs.PlanEdges.{PlanEdge, plan_edges}
use Rattle.theory_lines.specs.Slabs.{IsSlab, abscissa_along, runs_over, is_spanning}

abscissa_in : (d : Arrow) (p : Point) → IsRational (abscissa_along d p)
abscissa_in d p = omega (arith, ints)

-- ---- what a test of two ends says

-- from one end at low or before to the other at high or after
pub record RunsOver (d low high : Arrow) (a b : Point) : Type 0 where
  pub first : IsAtMost (abscissa_along d a) low
  pub last : IsAtMost high (abscissa_along d b)

runs_from : (d low high : Arrow) (a b : Point) → runs_over d low high a b ≡ true
    → RunsOver d low high a b
runs_from d low high a b answer =
    let parts = and_parts (is_at_most (abscissa_along d a) low)
    (is_at_most high (abscissa_along d b)) answer in
    record {
      first = at_most_from (pos 0) (cross (abscissa_along d a) low) parts.0;
      last = at_most_from (pos 0) (cross high (abscissa_along d b)) parts.1;
    }

runs_test : (d low high : Arrow) (a b : Point) → RunsOver d low high a b
    → runs_over d low high a b ≡ true
runs_test d low high a b runs =
    and_from (is_at_most (abscissa_along d a) low) (is_at_most high (abscissa_along d b))
    (test_at_most (pos 0) (cross (abscissa_along d a) low) runs.first)
    (test_at_most (pos 0) (cross high (abscissa_along d b)) runs.last)

-- an edge that spans runs over the slab one way or the other
pub spanning_runs : (d low high : Arrow) (e : Edge) → is_spanning d low high e ≡ true
    → RunsOver d low high e.a e.b ⊎ RunsOver d low high e.b e.a
spanning_runs d low high e spans =
    from (or_cases (runs_over d low high e.a e.b) (runs_over d low high e.b e.a) spans)
  where
    from : (runs_over d low high e.a e.b ≡ true) ⊎ (runs_over d low high e.b e.a ≡ true)
        → RunsOver d low high e.a e.b ⊎ RunsOver d low high e.b e.a
    from (inl along) = inl (runs_from d low high e.a e.b along)
    from (inr against) = inr (runs_from d low high e.b e.a against)

-- and what runs over it spans
pub runs_spanning : (d low high : Arrow) (e : Edge)
    → RunsOver d low high e.a e.b ⊎ RunsOver d low high e.b e.a → is_spanning d low high e ≡ true
runs_spanning d low high e (inl along) =
    or_left (runs_over d low high e.a e.b) (runs_over d low high e.b e.a)
    (runs_test d low high e.a e.b along)
runs_spanning d low high e (inr against) =
    or_right (runs_over d low high e.a e.b) (runs_over d low high e.b e.a)
    (runs_test d low high e.b e.a against)

-- ---- a spanning edge, at numbers of the slab

module _ (d low high u : Arrow) (low_in : IsRational low) (high_in : IsRational high)
    (u_in : IsRational u) where
  at_or_before : (a : Point) → IsAtMost (abscissa_along d a) low → IsAtMost low u
      → lies_after d u a ≡ false
  at_or_before a first after =
      let at = abscissa_along d a in
      let low_at = at_most_trans at low u (abscissa_in d a) low_in u_in first after in
      let turn = cross-turn at u in
      test_not_less (pos 0) (cross u at) (omega (arith, ints))

  beyond : (b : Point) → IsAtMost high (abscissa_along d b) → IsBelow u high
      → lies_after d u b ≡ true
  beyond b last before =
      test_less (pos 0) (cross u (abscissa_along d b))
      (below_at_most_trans u high (abscissa_along d b) u_in high_in (abscissa_in d b) before last)

  -- an edge that spans reaches past each number from low on, up to high
  pub spanning_reaches : (e : Edge) → is_spanning d low high e ≡ true → IsAtMost low u
      → IsBelow u high → reaches_past d u e ≡ true
  spanning_reaches e spans after before = from (spanning_runs d low high e spans)
    where
      one : {s t : Bool} → s ≡ false → t ≡ true → differ s t ≡ true
      one first second = rw (first, second) refl

      other : {s t : Bool} → s ≡ true → t ≡ false → differ s t ≡ true
      other first second = rw (first, second) refl

      from : RunsOver d low high e.a e.b ⊎ RunsOver d low high e.b e.a
          → reaches_past d u e ≡ true
      from (inl along) =
          one (at_or_before e.a along.first after) (beyond e.b along.last before)
      from (inr against) =
          other (beyond e.a against.last before) (at_or_before e.b against.first after)

  not_at_first : (a : Point) → IsAtMost (abscissa_along d a) low → IsBelow low u
      → int_eq (cross u (abscissa_along d a)) (pos 0) ≡ false
  not_at_first a first after =
      let at = abscissa_along d a in
      let less = at_most_below_trans at low u (abscissa_in d a) low_in u_in first after in
      let turn = cross-turn at u in
      test_not_equal (cross u at) (pos 0) (λ same. omega (arith, ints))

  not_at_last : (b : Point) → IsAtMost high (abscissa_along d b) → IsBelow u high
      → int_eq (cross u (abscissa_along d b)) (pos 0) ≡ false
  not_at_last b last before =
      let at = abscissa_along d b in
      let more = below_at_most_trans u high at u_in high_in (abscissa_in d b) before last in
      test_not_equal (cross u at) (pos 0) (λ same. omega (arith, ints))

  -- and ends at none strictly inside
  pub spanning_ends_nowhere : (e : Edge) → is_spanning d low high e ≡ true → IsBelow low u
      → IsBelow u high → ends_over (flat d) u e ≡ false
  spanning_ends_nowhere e spans after before = from (spanning_runs d low high e spans)
    where
      neither : {s t : Bool} → s ≡ false → t ≡ false → (s || t) ≡ false
      neither first second = rw (first, second) refl

      from : RunsOver d low high e.a e.b ⊎ RunsOver d low high e.b e.a
          → ends_over (flat d) u e ≡ false
      from (inl along) =
          neither (not_at_first e.a along.first after) (not_at_last e.b along.last before)
      from (inr against) =
          neither (not_at_last e.a against.last before) (not_at_first e.b against.first after)

-- ---- an edge of the model, at numbers of the slab

module _ (m : Building) (d low high : Arrow) (slab : IsSlab m d low high) where
  -- an end of an edge of the model is an abscissa, so it does not lie strictly inside
  end_is_outside : (e : PlanEdge) → Stands e (plan_edges m) → (a : Point)
      → ends_over (flat d) (abscissa_along d a) e.edge ≡ true
      → IsBelow low (abscissa_along d a) → IsBelow (abscissa_along d a) high → ⊥
  end_is_outside e e_in a ends after before =
      false≢true
      (sym (slab.none (abscissa_along d a) (abscissa_in d a) after before)
      ∙ or_left (list_any (λ f. ends_over (flat d) (abscissa_along d a) f.edge) (plan_edges m))
      (list_any (λ f.
      list_any (λ g. cross_over (flat d) (abscissa_along d a) f.edge g.edge) (plan_edges m))
      (plan_edges m))
      (any_stands (λ f. ends_over (flat d) (abscissa_along d a) f.edge) e (plan_edges m) e_in ends))

  same_number : (r : Arrow) → int_eq (cross r r) (pos 0) ≡ true
  same_number r = (Decides-int_eq (cross r r) (pos 0)).1 (cross-self r)

  ends_at_a : (e : Edge) → ends_over (flat d) (abscissa_along d e.a) e ≡ true
  ends_at_a e =
      or_left (int_eq (cross (abscissa_along d e.a) (abscissa_along d e.a)) (pos 0))
      (int_eq (cross (abscissa_along d e.a) (abscissa_along d e.b)) (pos 0))
      (same_number (abscissa_along d e.a))

  ends_at_b : (e : Edge) → ends_over (flat d) (abscissa_along d e.b) e ≡ true
  ends_at_b e =
      or_right (int_eq (cross (abscissa_along d e.b) (abscissa_along d e.a)) (pos 0))
      (int_eq (cross (abscissa_along d e.b) (abscissa_along d e.b)) (pos 0))
      (same_number (abscissa_along d e.b))

  module _ (u : Arrow) (u_in : IsRational u) (after : IsAtMost low u) (before : IsBelow u high) where
    runs_if_ends : (a b : Point)
        → (IsBelow low (abscissa_along d a) → IsBelow (abscissa_along d a) high → ⊥)
        → (IsBelow low (abscissa_along d b) → IsBelow (abscissa_along d b) high → ⊥)
        → lies_after d u a ≡ false → lies_after d u b ≡ true → RunsOver d low high a b
    runs_if_ends a b out_a out_b first second =
        record {
          first = from_first (below_or_not low at);
          last = from_last (below_or_not to high);
        }
      where
        at : Arrow
        at = abscissa_along d a

        to : Arrow
        to = abscissa_along d b

        behind : IsBelow at high
        behind =
            at_most_below_trans at u high (abscissa_in d a) u_in slab.high_in
            (let turn = cross-turn u at in
            let low_at = not_less_from (pos 0) (cross u at) first in
            omega (arith, ints)) before

        ahead : IsBelow low to
        ahead =
            at_most_below_trans low u to slab.low_in u_in (abscissa_in d b) after
            (let more = less_from (pos 0) (cross u to) second in omega (arith, ints))

        from_first : IsBelow low at ⊎ IsAtMost at low → IsAtMost at low
        from_first (inl inside) = absurd (out_a inside behind)
        from_first (inr outside) = outside

        from_last : IsBelow to high ⊎ IsAtMost high to → IsAtMost high to
        from_last (inl inside) = absurd (out_b ahead inside)
        from_last (inr outside) = outside

    -- an edge of the model that reaches past a number of the slab, not the last, spans it
    pub reaching_spans : (e : PlanEdge) → Stands e (plan_edges m) → reaches_past d u e.edge ≡ true
        → is_spanning d low high e.edge ≡ true
    reaching_spans e e_in reaches =
        runs_spanning d low high e.edge
        (from (lies_after d u e.edge.a) (lies_after d u e.edge.b) refl refl reaches)
      where
        out_a : IsBelow low (abscissa_along d e.edge.a) → IsBelow (abscissa_along d e.edge.a) high
            → ⊥
        out_a = end_is_outside e e_in e.edge.a (ends_at_a e.edge)

        out_b : IsBelow low (abscissa_along d e.edge.b) → IsBelow (abscissa_along d e.edge.b) high
            → ⊥
        out_b = end_is_outside e e_in e.edge.b (ends_at_b e.edge)

        from : (s t : Bool) → lies_after d u e.edge.a ≡ s → lies_after d u e.edge.b ≡ t
            → differ s t ≡ true
            → RunsOver d low high e.edge.a e.edge.b ⊎ RunsOver d low high e.edge.b e.edge.a
        from false true first second apart =
            inl (runs_if_ends e.edge.a e.edge.b out_a out_b first second)
        from true false first second apart =
            inr (runs_if_ends e.edge.b e.edge.a out_b out_a second first)
        from true true first second apart = absurd (false≢true apart)
        from false false first second apart = absurd (false≢true apart)
