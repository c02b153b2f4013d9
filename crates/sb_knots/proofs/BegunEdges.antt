-- The two edges of a corner, by their numbers, and which of them begin there.

use Rattle.std.proofs.Common.{◌≡◌, refl, ap, ap₂, ◌∙◌, ℕ, ◌+◌, ◌*◌, ◌/◌, ◌%◌, Bool, true, false}
use Rattle.std.proofs.Common.{List, length, IsTrue, Some, arith, int_lt, pos, nat_lt}
use Rattle.std.specs.List.{list_all, list_any, slice_get}
use Rattle.std.proofs.lemmas.Bool.{lt-ltb}
use Rattle.std.proofs.lemmas.Option.{slice_get_within}
use Rattle.sb_fraction.specs.Edges.{edge}
use Rattle.theory_plans.specs.Loops.{comes_before}
use Rattle.theory_sweep.specs.Corners.{Corner}
use Rattle.theory_sweep.specs.Open.{is_under}
use Rattle.theory_sweep.proofs.ValuesAtACorner.{level_at_a}
use Rattle.sb_knots.specs.Steps.{edge_at, edge_from, is_edge, lies_under, ids_of, begun_at}
use Rattle.sb_knots.specs.Steps.{begun_by}

half_even : (k : ℕ) → (2 * k) / 2 ≡ k
half_even k = omega arith

half_odd : (k : ℕ) → (2 * k + 1) / 2 ≡ k
half_odd k = omega arith

rest_even : (k : ℕ) → (2 * k) % 2 ≡ 0
rest_even k = omega arith

rest_odd : (k : ℕ) → (2 * k + 1) % 2 ≡ 1
rest_odd k = omega arith

module _ (corners : List Corner) (k : ℕ) (c : Corner) (at : slice_get corners k ≡ Some c) where
  -- that to the point before
  pub edge_to_before : edge_at corners (2 * k) ≡ edge c.at c.before
  edge_to_before =
      ap₂ (λ i way. edge_from (slice_get corners i) way) (half_even k) (rest_even k)
      ∙ ap (λ o. edge_from o 0) at

  -- that to the point after
  pub edge_to_after : edge_at corners (2 * k + 1) ≡ edge c.at c.after
  edge_to_after =
      ap₂ (λ i way. edge_from (slice_get corners i) way) (half_odd k) (rest_odd k)
      ∙ ap (λ o. edge_from o 1) at

  even_in : IsTrue (is_edge corners (2 * k))
  even_in =
      ap (λ i. nat_lt i (length corners)) (half_even k)
      ∙ lt-ltb k (length corners) (slice_get_within corners k c at)

  odd_in : IsTrue (is_edge corners (2 * k + 1))
  odd_in =
      ap (λ i. nat_lt i (length corners)) (half_odd k)
      ∙ lt-ltb k (length corners) (slice_get_within corners k c at)

  even_over : lies_under corners c.at (2 * k) ≡ false
  even_over =
      ap (is_under c.at) edge_to_before
      ∙ ap (int_lt (pos 0)) (level_at_a (edge c.at c.before) c.at refl)

  odd_over : lies_under corners c.at (2 * k + 1) ≡ false
  odd_over =
      ap (is_under c.at) edge_to_after
      ∙ ap (int_lt (pos 0)) (level_at_a (edge c.at c.after) c.at refl)

  -- those that begin are edges
  pub begun_in : IsTrue (list_all (is_edge corners) (ids_of (begun_at c k)))
  begun_in =
      by (comes_before c.at c.before) (comes_before c.at c.after) (is_under c.after
      (edge c.at c.before))
    where
      by : (before after lower : Bool)
          → IsTrue (list_all (is_edge corners) (ids_of (begun_by before after lower k)))
      by true true true = rw (even_in, odd_in) refl
      by true true false = rw (even_in, odd_in) refl
      by true false lower = rw even_in refl
      by false true lower = rw odd_in refl
      by false false lower = refl

  -- and do not lie below the corner
  pub begun_over : list_any (lies_under corners c.at) (ids_of (begun_at c k)) ≡ false
  begun_over =
      by (comes_before c.at c.before) (comes_before c.at c.after) (is_under c.after
      (edge c.at c.before))
    where
      by : (before after lower : Bool)
          → list_any (lies_under corners c.at) (ids_of (begun_by before after lower k)) ≡ false
      by true true true = rw (even_over, odd_over) refl
      by true true false = rw (even_over, odd_over) refl
      by true false lower = rw even_over refl
      by false true lower = rw odd_over refl
      by false false lower = refl
