-- Of a corner at which two edges begin, the number of edges below tells on which side of that to
-- the
-- point after the solid lies.

use Rattle.std.proofs.Common.{◌≡◌, refl, sym, ap, ap₂, ◌∙◌, arith, ℕ, suc, ◌≤◌, ◌+◌, ◌*◌, ◌%◌}
use Rattle.std.proofs.Common.{Bool, true, false, not, List, [], ◌∷◌, ◌++◌, length, take, drop, map}
use Rattle.std.proofs.Common.{Some}
use Rattle.std.proofs.Common.{nat_lt, append_assoc, if◌then◌else◌}
use Rattle.std.specs.List.{slice_get}
use Rattle.std.proofs.lemmas.Bool.Decides.{nat_tests}
use Rattle.std.proofs.lemmas.List.{length-map, length-take-le}
use Rattle.theory_lists.specs.Parity.{is_odd_number, differ}
use Rattle.theory_lists.proofs.Parity.{is_odd_number-append}
use Rattle.theory_lists.specs.Parted.{IsPartedAt}
use Rattle.sb_fraction.specs.declared.point.Point.{Point}
use Rattle.sb_fraction.specs.Edges.{Edge, edge}
use Rattle.theory_plans.specs.LoopEdges.{edges_of}
use Rattle.theory_plans.specs.Plans.{are_apart, is_solid_left_of}
use Rattle.theory_sweep.specs.Corners.{Corner}
use Rattle.theory_sweep.specs.Open.{AreOpen, is_under}
use Rattle.theory_sweep.specs.Passing.{sweep_way}
use Rattle.theory_sweep.proofs.EdgesByCorners.{corner_has}
use Rattle.theory_sweep.proofs.PassedInOrder.{sweep_is_way}
use Rattle.theory_sweep.proofs.SenseByRank.{sense_by_rank}
use Rattle.sb_knots.specs.Listing.{IsListing, passed_by, IsSenseAt}
use Rattle.sb_knots.specs.Steps.{edge_at, ids_of, begun_at, begun_by, lies_under, ends_at}
use Rattle.sb_knots.specs.Steps.{drop_first}
use Rattle.sb_knots.specs.Steps.{closed_at, HaveBegun, is_even_below}
use Rattle.sb_knots.proofs.BegunEdges.{edge_to_before, edge_to_after}
use Rattle.sb_knots.proofs.CornersInOrder.{is_next, passed_apart}
use Rattle.sb_knots.proofs.StepIsRight.{passed}

-- ---- odd numbers

odd_after : (n : ℕ) → nat_lt 0 (suc n % 2) ≡ not (nat_lt 0 (n % 2))
odd_after n = grind (arith, nat_tests)

odd_length : {X : Type 0} (xs : List X) → is_odd_number (λ x. true) xs ≡ nat_lt 0 (length xs % 2)
odd_length [] = refl
odd_length (x ∷ xs) = ap not (odd_length xs) ∙ sym (odd_after (length xs))

not_not : (b : Bool) → not (differ b true) ≡ b
not_not true = refl
not_not false = refl

next_is_more : (k : ℕ) → nat_lt (2 * k) (2 * k + 1) ≡ true
next_is_more k = grind (arith, nat_tests)

next_is_not_less : (k : ℕ) → nat_lt (2 * k + 1) (2 * k) ≡ false
next_is_not_less k = grind (arith, nat_tests)

module _ (loops : List (List Point)) (corners : List Corner) (listing : IsListing loops corners)
    (k : ℕ) (c : Corner) (at : slice_get corners k ≡ Some c) (ids : List ℕ)
    (now : AreOpen sweep_way loops (passed_by corners k) (map (edge_at corners) ids))
    (n : ℕ) (within : n ≤ length ids) (parted : IsPartedAt (lies_under corners c.at) n ids)
    (left : Bool) (later : List ℕ)
    (have : HaveBegun corners (begun_at c k) n (closed_at corners c.at n ids) later left) where
  abbrev front : List Edge
  front = map (edge_at corners) (take n ids)

  abbrev back : List Edge
  back = map (edge_at corners) (drop_first (ends_at corners c.at) (drop n ids))

  abbrev on : Edge
  on = edge c.at c.after

  odd_front : is_odd_number (λ (e : Edge). true) front ≡ nat_lt 0 (n % 2)
  odd_front =
      odd_length front
      ∙ ap (λ m. nat_lt 0 (m % 2))
      (length-map (take n ids) (edge_at corners) ∙ length-take-le n ids within)

  then_ : AreOpen sweep_way loops (passed_by corners (suc k))
      (front ++ (map (edge_at corners) (ids_of (begun_at c k)) ++ back))
  then_ = passed loops corners listing k c at ids now n within parted left later have

  by_rank : are_apart loops ≡ true → (new below above : List Edge)
      → map (edge_at corners) (ids_of (begun_at c k)) ≡ new
      → front ++ (new ++ back) ≡ below ++ on ∷ above
      → is_solid_left_of on (edges_of loops) ≡ not (is_odd_number (λ (e : Edge). true) below)
  by_rank are new below above new_is split =
      sense_by_rank sweep_way sweep_is_way loops (passed_apart loops corners listing)
      (record { bent = listing.bent; apart = are }) (passed_by corners (suc k))
      (front ++ (map (edge_at corners) (ids_of (begun_at c k)) ++ back)) then_ below on above
      (ap (λ t. front ++ (t ++ back)) new_is ∙ split)
      (corner_has loops c (is_next loops corners listing k c at).stands).goes

  pub sense : IsSenseAt loops c left
  sense before after are = by (is_under c.after (edge c.at c.before)) refl
    where
      begun_is : (lower : Bool) → is_under c.after (edge c.at c.before) ≡ lower
          → begun_at c k ≡ begun_by true true lower k
      begun_is lower is = rw (before, after, is) refl

      by : (lower : Bool) → is_under c.after (edge c.at c.before) ≡ lower
          → left ≡ is_solid_left_of (edge c.at c.after) (edges_of loops)
      by true lower =
          have.even ∙ ap (is_even_below n) (begun_is true lower)
          ∙ ap (λ b. if b then nat_lt 0 (n % 2) else not (nat_lt 0 (n % 2))) (next_is_more k)
          ∙ sym
          (by_rank are (edge c.at c.before ∷ on ∷ []) (front ++ edge c.at c.before ∷ []) back
          (ap (λ b. map (edge_at corners) (ids_of b)) (begun_is true lower)
          ∙ ap₂ (λ e f. e ∷ f ∷ []) (edge_to_before corners k c at) (edge_to_after corners k c at))
          (sym (append_assoc front (edge c.at c.before ∷ []) (on ∷ back)))
          ∙ ap not
          (is_odd_number-append (λ (e : Edge). true) front (edge c.at c.before ∷ []))
          ∙ not_not (is_odd_number (λ (e : Edge). true) front)
          ∙ odd_front)
      by false lower =
          have.even ∙ ap (is_even_below n) (begun_is false lower)
          ∙ ap (λ b. if b then nat_lt 0 (n % 2) else not (nat_lt 0 (n % 2))) (next_is_not_less k)
          ∙ sym
          (by_rank are (on ∷ edge c.at c.before ∷ []) front (edge c.at c.before ∷ back)
          (ap (λ b. map (edge_at corners) (ids_of b)) (begun_is false lower)
          ∙ ap₂ (λ e f. e ∷ f ∷ []) (edge_to_after corners k c at) (edge_to_before corners k c at))
          refl
          ∙ ap not odd_front)
