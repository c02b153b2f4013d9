-- Of the edges of a model below a point of a slab an odd number passes a test exactly where an odd
-- number of the first ones of the order does.

use Rattle.std.proofs.Common.{◌≡◌, refl, sym, ap, ap₂, ◌∙◌, arith, ℕ, zero, suc, ◌+◌, Bool}
use Rattle.std.proofs.Common.{true, false, ◌&&◌, List, [], ◌∷◌, Option, Some, None, slice_get, take}
use Rattle.std.proofs.Common.{if◌then◌else◌, ◌==◌, IsTrue}
use Rattle.std.proofs.lemmas.Bool.{and_parts, false≢true}
use Rattle.theory_lists.specs.Members.{Stands}
use Rattle.theory_lists.specs.Parity.{differ, is_odd_number}
use Rattle.theory_lists.proofs.Parted.{odd_in_part}
use Rattle.theory_lists.proofs.Members.{all_that_stand}
use Rattle.theory_lists.proofs.Parity.{is_odd_number-permuted, odd_where_same, is_odd_number-same}
use Rattle.theory_numbers.specs.Arrows.{Arrow}
use Rattle.theory_numbers.specs.Rationals.{IsRational, IsBelow, IsAtMost, is_below}
use Rattle.sb_fraction.specs.Lines.{reaches_past}
use Rattle.theory_plans.specs.LoopEdges.{edges_of}
use Rattle.sb_model.specs.Building.{Building, is_building}
use Rattle.sb_model.specs.PlanEdges.{PlanEdge, Product, plan_edges, products_of}
use Rattle.theory_models.proofs.EdgesOfProducts.{own_edges}
use Rattle.theory_parity.specs.Below.{value_of, is_lower_at}
use Rattle.theory_lines.specs.Slabs.{IsSlab, is_spanning, places_from, spanning_places, IsSlabOrder}
use Rattle.theory_lines.specs.Slabs.{has_passing, is_lower_place}
use Rattle.theory_lists.specs.Parted.{IsPartedAt}
use Rattle.theory_lines.proofs.EdgesOverASlab.{reaching_spans}
use Rattle.theory_lines.proofs.SortedByValues.{lower_are_first}

-- ---- lists

module _ {X : Type 0} where
  -- what passes at the places of some items passes at an odd number of them where an odd number of
  -- these items pass
  odd_at_places : (some test : X → Bool) (n : ℕ) (xs : List X) (at : ℕ → Bool)
      → ((i : ℕ) → at (n + i) ≡ has_passing test (slice_get xs i))
      → is_odd_number at (places_from some n xs) ≡ is_odd_number (λ x. some x && test x) xs
  odd_at_places some test n [] at same = refl
  odd_at_places some test n (x ∷ xs) at same =
      from (some x)
      (odd_at_places some test (suc n) xs at
      (λ i. ap at (further i) ∙ same (suc i)))
    where
      further : (i : ℕ) → suc n + i ≡ n + suc i
      further i = omega arith

      here : at n ≡ test x
      here = ap at (no_further n) ∙ same zero
        where
          no_further : (k : ℕ) → k ≡ k + zero
          no_further k = omega arith

      from : (b : Bool)
          → is_odd_number at (places_from some (suc n) xs) ≡ is_odd_number (λ y. some y && test y) xs
          → is_odd_number at (if b then n ∷ places_from some (suc n) xs else places_from some (suc n) xs)
          ≡ differ (b && test x) (is_odd_number (λ y. some y && test y) xs)
      from true rest = ap₂ differ here rest
      from false rest = rest

both_passing : (own test : PlanEdge → Bool) (e : Option PlanEdge)
    → has_passing (λ x. own x && test x) e ≡ (has_passing own e && has_passing test e)
both_passing own test (Some x) = refl
both_passing own test None = refl

-- ---- the order of a slab

-- an odd number of the places of an order pass where an odd number of the spanning edges do
pub odd_in_order : (edges : List PlanEdge) (d low high : Arrow) (order : List ℕ)
    → IsSlabOrder edges d low high order → (test : PlanEdge → Bool)
    → is_odd_number (λ k. has_passing test (slice_get edges k)) order
    ≡ is_odd_number (λ e. is_spanning d low high e.edge && test e) edges
odd_in_order edges d low high order is test =
    sym (is_odd_number-permuted (λ k. has_passing test (slice_get edges k)) order
    (spanning_places edges d low high) is.spanning)
    ∙ odd_at_places (λ e. is_spanning d low high e.edge) test 0 edges
    (λ k. has_passing test (slice_get edges k))
    (λ i. ap (λ k. has_passing test (slice_get edges k)) (from_none i))
  where
    from_none : (i : ℕ) → 0 + i ≡ i
    from_none i = omega arith

module _ (m : Building) (d low high : Arrow) (slab : IsSlab m d low high) (order : List ℕ)
    (is : IsSlabOrder (plan_edges m) d low high order) (u : Arrow) (u_in : IsRational u)
    (after : IsAtMost low u) (before : IsBelow u high) (v : Arrow) (v_in : IsRational v) where
  -- an edge of the model with a lesser value at u spans the slab
  lower_spans : (own : PlanEdge → Bool) (e : PlanEdge) → Stands e (plan_edges m)
      → (is_spanning d low high e.edge && (own e && is_lower_at d u v e.edge))
      ≡ (own e && is_lower_at d u v e.edge)
  lower_spans own e e_in =
      table (is_spanning d low high e.edge) (own e) (is_lower_at d u v e.edge)
      (λ lower.
      reaching_spans m d low high slab u u_in after before e e_in
      ((and_parts (reaches_past d u e.edge) (is_below (value_of d u e.edge) v) lower).0))
    where
      table : (spans mine lower : Bool) → (lower ≡ true → spans ≡ true)
          → (spans && (mine && lower)) ≡ (mine && lower)
      table true mine lower only = refl
      table false mine true only = absurd (false≢true (only refl))
      table false true false only = refl
      table false false false only = refl

  -- the edges with a lesser value than v at u are the first n of the order, and of those that pass a
  -- test there is an odd number exactly where an odd number of the first n places passes it
  pub odd_below : (own : PlanEdge → Bool)
      → (n : ℕ) × (IsPartedAt (is_lower_place (plan_edges m) d u v) n order
      × (is_odd_number (λ k. has_passing own (slice_get (plan_edges m) k)) (take n order)
      ≡ is_odd_number (λ e. own e && is_lower_at d u v e.edge) (plan_edges m)))
  odd_below own =
      from
      (lower_are_first (plan_edges m) d low high slab.low_in slab.high_in slab.wide order is u u_in
      after before v v_in)
    where
      both : (k : ℕ)
          → has_passing (λ e. own e && is_lower_at d u v e.edge) (slice_get (plan_edges m) k)
          ≡ (has_passing own (slice_get (plan_edges m) k) && is_lower_place (plan_edges m) d u v k)
      both k = both_passing own (λ e. is_lower_at d u v e.edge) (slice_get (plan_edges m) k)

      from : (n : ℕ) × IsPartedAt (is_lower_place (plan_edges m) d u v) n order
          → (n : ℕ) × (IsPartedAt (is_lower_place (plan_edges m) d u v) n order
          × (is_odd_number (λ k. has_passing own (slice_get (plan_edges m) k)) (take n order)
          ≡ is_odd_number (λ e. own e && is_lower_at d u v e.edge) (plan_edges m)))
      from (n, part) = (
        n,
        (
          part,
          sym (odd_in_part (λ k. has_passing own (slice_get (plan_edges m) k))
              (is_lower_place (plan_edges m) d u v) n order part)
              ∙ sym (is_odd_number-same
              (λ k. has_passing (λ e. own e && is_lower_at d u v e.edge) (slice_get (plan_edges m) k))
              (λ k. has_passing own (slice_get (plan_edges m) k)
              && is_lower_place (plan_edges m) d u v k) both order)
              ∙ odd_in_order (plan_edges m) d low high order is
              (λ e. own e && is_lower_at d u v e.edge)
              ∙ odd_where_same
              (λ e. is_spanning d low high e.edge && (own e && is_lower_at d u v e.edge))
              (λ e. own e && is_lower_at d u v e.edge) (plan_edges m)
              (all_that_stand
              (λ e. (is_spanning d low high e.edge && (own e && is_lower_at d u v e.edge))
              ≡ (own e && is_lower_at d u v e.edge))
              (plan_edges m) (lower_spans own)),
        ),
      )

-- of a product of the model an odd number of edges stands among the first n places of the order exactly
-- where an odd number of the edges of its own loops lies below
pub odd_of_product : (m : Building) → IsTrue (is_building m) → (d low high : Arrow)
    → IsSlab m d low high → (order : List ℕ) → IsSlabOrder (plan_edges m) d low high order
    → (u : Arrow) → IsRational u → IsAtMost low u → IsBelow u high → (v : Arrow) → IsRational v
    → (p : Product) → Stands p (products_of m)
    → (n : ℕ) × (IsPartedAt (is_lower_place (plan_edges m) d u v) n order
    × (is_odd_number (λ k. has_passing (λ e. e.product == p.number) (slice_get (plan_edges m) k))
    (take n order)
    ≡ is_odd_number (is_lower_at d u v) (edges_of p.prism.loops)))
odd_of_product m valid d low high slab order is u u_in after before v v_in p p_in =
    from
    (odd_below m d low high slab order is u u_in after before v v_in (λ e. e.product == p.number))
  where
    from : (n : ℕ) × (IsPartedAt (is_lower_place (plan_edges m) d u v) n order
        × (is_odd_number (λ k. has_passing (λ e. e.product == p.number) (slice_get (plan_edges m) k))
        (take n order)
        ≡ is_odd_number (λ e. (e.product == p.number) && is_lower_at d u v e.edge) (plan_edges m)))
        → (n : ℕ) × (IsPartedAt (is_lower_place (plan_edges m) d u v) n order
        × (is_odd_number (λ k. has_passing (λ e. e.product == p.number) (slice_get (plan_edges m) k))
        (take n order)
        ≡ is_odd_number (is_lower_at d u v) (edges_of p.prism.loops)))
    from (n, found) =
        (n, (found.0, found.1 ∙ own_edges m valid p p_in (is_lower_at d u v)))
