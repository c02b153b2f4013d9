-- At each number of a slab, its ends taken in, no edge lies above a later one of the order; so those
-- with a lesser value than another are the first of it.

use Rattle.std.proofs.Common.{◌≡◌, ◌⊎◌, inl, inr, sym, ap, ◌∙◌, arith, ℕ, pos, ◌≤ℤ◌, ◌<◌, Bool, true}
use Rattle.std.proofs.Common.{List, slice_get}
use Rattle.std.proofs.lemmas.Int.{ints}
use Rattle.std.proofs.lemmas.Bool.{and_parts, and_from}
use Rattle.theory_lists.specs.Members.{Stands, AllOfTwo}
use Rattle.theory_lists.proofs.Members.{two_follow}
use Rattle.theory_lists.proofs.InAnyOrder.{stands_permuted}
use Rattle.theory_numbers.specs.Arrows.{Arrow, cross}
use Rattle.theory_numbers.specs.Rationals.{IsRational, IsBelow, IsAtMost, is_below, is_at_most}
use Rattle.theory_numbers.proofs.Fractions.Rationals.{at_most_trans, at_most_below_trans, at_most_from_below}
use Rattle.theory_numbers.proofs.Signs.{less_from, test_less, at_most_from, test_at_most}
use Rattle.theory_plane.specs.Sides.{clearance_at}
use Rattle.theory_plane.proofs.Clearance.{value_on-IsRational, at_least_is}
use Rattle.sb_fraction.specs.Edges.{Edge}
use Rattle.sb_fraction.specs.Lines.{line_over, reaches_past}
use Rattle.sb_model.specs.PlanEdges.{PlanEdge}
use Rattle.theory_parity.specs.Below.{value_of, is_lower_at, is_up_to_at}
use Rattle.theory_lines.specs.Slabs.{is_spanning, spanning_places, IsUnder, AreOnOneLine}
use Rattle.theory_lines.specs.Slabs.{IsUnderOver, IsSlabOrder, IsNotAbove, has_passing}
use Rattle.theory_lines.specs.Slabs.{is_lower_place, is_up_to_place}
use Rattle.theory_lists.specs.Parted.{IsPartedAt}
use Rattle.theory_lines.proofs.EdgesOverASlab.{spanning_reaches}
use Rattle.theory_lines.proofs.OneLiesBelow.{under_to_ends, one_line_meets, spanning_is_line}
use Rattle.theory_lines.proofs.SlabOrderIsOne.{SpansAt, spans_at}
use Rattle.theory_lists.proofs.Parted.{parted}

module _ (edges : List PlanEdge) (d low high : Arrow) (low_in : IsRational low)
    (high_in : IsRational high) (wide : IsBelow low high) (order : List ℕ)
    (is : IsSlabOrder edges d low high order) (u : Arrow) (u_in : IsRational u)
    (after : IsAtMost low u) where
  -- of each two edges of the order the earlier does not lie above the later, at both ends neither
  pub sorted_to_ends : IsAtMost u high → AllOfTwo (IsNotAbove edges d u) order
  sorted_to_ends before =
      two_follow (IsUnderOver edges d low high) (IsNotAbove edges d u) order
      (λ i j at_i at_j first e f at_e at_f. from e f (first e f at_e at_f)) is.ordered
    where
      from : {i j : ℕ} → (e f : PlanEdge)
          → IsUnder d low high e.edge f.edge ⊎ (AreOnOneLine d e.edge f.edge × (i < j))
          → pos 0 ≤ℤ clearance_at (line_over d e.edge) (line_over d f.edge) u
      from e f (inl under) =
          under_to_ends d low high low_in high_in wide e.edge f.edge under u u_in after before
      from e f (inr one) =
          let none = one_line_meets d e.edge f.edge one.0 u in omega (arith, ints)

  -- an edge of the order
  at_place : (k : ℕ) → Stands k order → SpansAt edges d low high k
  at_place k stands =
      spans_at edges d low high k
      (stands_permuted k order (spanning_places edges d low high) is.spanning stands)

  module _ (before : IsBelow u high) (v : Arrow) (v_in : IsRational v) where
    reaches : (e : Edge) → is_spanning d low high e ≡ true → reaches_past d u e ≡ true
    reaches e spans = spanning_reaches d low high u low_in high_in u_in e spans after before

    value_in : (e : Edge) → is_spanning d low high e ≡ true → IsRational (value_of d u e)
    value_in e spans =
        value_on-IsRational (line_over d e) u (spanning_is_line d low high low_in high_in wide e spans)
        u_in

    -- where the later has a lesser value the earlier has one
    lower_before : (e f : Edge) → is_spanning d low high e ≡ true → is_spanning d low high f ≡ true
        → pos 0 ≤ℤ clearance_at (line_over d e) (line_over d f) u
        → is_lower_at d u v f ≡ true → is_lower_at d u v e ≡ true
    lower_before e f spans_e spans_f least lower =
        let parts = and_parts (reaches_past d u f) (is_below (value_of d u f) v) lower in
        and_from (reaches_past d u e) (is_below (value_of d u e) v) (reaches e spans_e)
        (test_less (pos 0) (cross (value_of d u e) v)
        (at_most_below_trans (value_of d u e) (value_of d u f) v (value_in e spans_e)
        (value_in f spans_f) v_in ((at_least_is (line_over d e) (line_over d f) u u_in).1 least)
        (less_from (pos 0) (cross (value_of d u f) v) parts.1)))

    up_to_before : (e f : Edge) → is_spanning d low high e ≡ true → is_spanning d low high f ≡ true
        → pos 0 ≤ℤ clearance_at (line_over d e) (line_over d f) u
        → is_up_to_at d u v f ≡ true → is_up_to_at d u v e ≡ true
    up_to_before e f spans_e spans_f least lower =
        let parts = and_parts (reaches_past d u f) (is_at_most (value_of d u f) v) lower in
        and_from (reaches_past d u e) (is_at_most (value_of d u e) v) (reaches e spans_e)
        (test_at_most (pos 0) (cross (value_of d u e) v)
        (at_most_trans (value_of d u e) (value_of d u f) v (value_in e spans_e)
        (value_in f spans_f) v_in ((at_least_is (line_over d e) (line_over d f) u u_in).1 least)
        (at_most_from (pos 0) (cross (value_of d u f) v) parts.1)))

    -- a test that an earlier edge passes where a later one does parts the order
    parted_by : (test : Edge → Bool)
        → ((e f : Edge) → is_spanning d low high e ≡ true → is_spanning d low high f ≡ true
        → pos 0 ≤ℤ clearance_at (line_over d e) (line_over d f) u
        → test f ≡ true → test e ≡ true)
        → (n : ℕ) × IsPartedAt (λ k. has_passing (λ e. test e.edge) (slice_get edges k)) n order
    parted_by test falls =
        parted (λ k. has_passing (λ e. test e.edge) (slice_get edges k)) order
        (two_follow (IsNotAbove edges d u)
        (λ i j. has_passing (λ e. test e.edge) (slice_get edges j) ≡ true
        → has_passing (λ e. test e.edge) (slice_get edges i) ≡ true) order
        (λ i j at_i at_j least passes.
        let p = at_place i at_i in
        let q = at_place j at_j in
        ap (has_passing (λ e. test e.edge)) p.there
        ∙ falls p.edge.edge q.edge.edge p.spans q.spans (least p.edge q.edge p.there q.there)
        (sym (ap (has_passing (λ e. test e.edge)) q.there) ∙ passes))
        (sorted_to_ends (at_most_from_below u high before)))

    -- the edges with a value below v at u are the first of the order
    pub lower_are_first : (n : ℕ) × IsPartedAt (is_lower_place edges d u v) n order
    lower_are_first = parted_by (is_lower_at d u v) lower_before

    -- and so are those with at most the value v
    pub up_to_are_first : (n : ℕ) × IsPartedAt (is_up_to_place edges d u v) n order
    up_to_are_first = parted_by (is_up_to_at d u v) up_to_before
