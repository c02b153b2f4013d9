-- A slab has one order: its places are those of the spanning edges, and of two of them at different
-- places one comes before the other, and not the other way round.

use Rattle.std.proofs.Common.{◌≡◌, ◌⊎◌, inl, inr, refl, sym, ap, ◌∙◌, subst, ℕ, zero, suc, ◌<◌, ◌+◌, ◌≤◌}
use Rattle.std.proofs.Common.{arith, Bool, true, false, List, [], ◌∷◌, Some, slice_get}
use Rattle.std.proofs.Common.{if◌then◌else◌}
use Rattle.std.proofs.lemmas.Bool.{cases_lt, false≢true}
use Rattle.std.proofs.lemmas.Option.{same_Some, none-some}
use Rattle.theory_lists.specs.Members.{Stands}
use Rattle.theory_lists.proofs.Members.{stands_at}
use Rattle.theory_numbers.specs.Arrows.{Arrow}
use Rattle.theory_numbers.specs.Rationals.{IsRational, IsBelow}
use Rattle.sb_model.specs.Building.{Building}
use Rattle.sb_model.specs.PlanEdges.{PlanEdge, plan_edges}
use Rattle.theory_parity.specs.Below.{IsWay}
use Rattle.theory_lines.specs.Slabs.{IsSlab, is_spanning, places_from, spanning_places, IsUnder}
use Rattle.theory_lines.specs.Slabs.{AreOnOneLine, IsUnderOver, IsSlabOrder}
use Rattle.theory_lines.proofs.OneLiesBelow.{under_one_way, under_not_one_line, one_line_turned}
use Rattle.theory_lines.proofs.OneLiesBelow.{one_lies_below}
use Rattle.theory_lists.proofs.SortedLists.{one_sorted_order}

-- ---- places

-- k is the place, counted from n, of an item that passes the test
record HasPlace {X : Type 0} (test : X → Bool) (n : ℕ) (xs : List X) (k : ℕ) : Type 0 where
  pub offset : ℕ
  pub item : X
  pub counted : k ≡ n + offset
  pub there : slice_get xs offset ≡ Some item
  pub passes : test item ≡ true

module _ {X : Type 0} (test : X → Bool) where
  one_further : (n k : ℕ) (x : X) (xs : List X) → HasPlace test (suc n) xs k
      → HasPlace test n (x ∷ xs) k
  one_further n k x xs place =
      record {
        offset = suc place.offset;
        item = place.item;
        counted = let same = place.counted in omega arith;
        there = place.there;
        passes = place.passes;
      }

  place_from : (n k : ℕ) (xs : List X) → Stands k (places_from test n xs) → HasPlace test n xs k
  place_from n k [] stands = absurd stands
  place_from n k (x ∷ xs) stands = from (test x) refl stands (place_from (suc n) k xs)
    where
      from : (b : Bool) → test x ≡ b
          → Stands k (if b then n ∷ places_from test (suc n) xs else places_from test (suc n) xs)
          → (Stands k (places_from test (suc n) xs) → HasPlace test (suc n) xs k)
          → HasPlace test n (x ∷ xs) k
      from true passes (inl same) rest =
          record {
            offset = zero;
            item = x;
            counted = omega arith;
            there = refl;
            passes = passes;
          }
      from true passes (inr later) rest = one_further n k x xs (rest later)
      from false fails later rest = one_further n k x xs (rest later)

  to_place : (n i : ℕ) (x : X) (xs : List X) → slice_get xs i ≡ Some x → test x ≡ true
      → Stands (n + i) (places_from test n xs)
  to_place n zero x [] at passes = absurd (none-some x at)
  to_place n (suc i) x [] at passes = absurd (none-some x at)
  to_place n zero x (y ∷ ys) at passes = from (test y) (ap test (same_Some y x at) ∙ passes)
    where
      from : (b : Bool) → b ≡ true
          → Stands (n + zero)
          (if b then n ∷ places_from test (suc n) ys else places_from test (suc n) ys)
      from true is = inl (omega arith)
      from false is = absurd (false≢true is)
  to_place n (suc i) x (y ∷ ys) at passes = from (test y) (to_place (suc n) i x ys at passes)
    where
      from : (b : Bool) → Stands (suc n + i) (places_from test (suc n) ys)
          → Stands (n + suc i)
          (if b then n ∷ places_from test (suc n) ys else places_from test (suc n) ys)
      from true there = inr (moved there)
        where
          moved : Stands (suc n + i) (places_from test (suc n) ys)
              → Stands (n + suc i) (places_from test (suc n) ys)
          moved = subst (λ k. Stands k (places_from test (suc n) ys)) (omega arith)
      from false there = subst (λ k. Stands k (places_from test (suc n) ys)) (omega arith) there

-- the edge at place k spans the slab
pub record SpansAt (edges : List PlanEdge) (d low high : Arrow) (k : ℕ) : Type 0 where
  pub edge : PlanEdge
  pub there : slice_get edges k ≡ Some edge
  pub spans : is_spanning d low high edge.edge ≡ true

module _ (edges : List PlanEdge) (d low high : Arrow) where
  -- at each spanning place stands an edge that spans
  pub spans_at : (k : ℕ) → Stands k (spanning_places edges d low high)
      → SpansAt edges d low high k
  spans_at k stands =
      let place = place_from (λ e. is_spanning d low high e.edge) 0 k edges stands in
      record {
        edge = place.item;
        there = ap (slice_get edges) (let same = place.counted in omega arith) ∙ place.there;
        spans = place.passes;
      }

  -- and the place of each edge that spans is one
  pub place_of_spanning : (k : ℕ) (e : PlanEdge) → slice_get edges k ≡ Some e
      → is_spanning d low high e.edge ≡ true → Stands k (spanning_places edges d low high)
  place_of_spanning k e at spans =
      subst (λ n. Stands n (spanning_places edges d low high)) (omega arith)
      (to_place (λ f. is_spanning d low high f.edge) 0 k e edges at spans)

  -- ---- one order

  module _ (low_in : IsRational low) (high_in : IsRational high) (wide : IsBelow low high) where
    -- no two come before each other
    pub before_one_way : (i j : ℕ) → Stands i (spanning_places edges d low high)
        → Stands j (spanning_places edges d low high) → IsUnderOver edges d low high i j
        → IsUnderOver edges d low high j i → ⊥
    before_one_way i j at_i at_j first second =
        let p = spans_at i at_i in
        let q = spans_at j at_j in
        clash p.edge q.edge (first p.edge q.edge p.there q.there)
        (second q.edge p.edge q.there p.there)
      where
        clash : (e f : PlanEdge)
            → IsUnder d low high e.edge f.edge ⊎ (AreOnOneLine d e.edge f.edge × (i < j))
            → IsUnder d low high f.edge e.edge ⊎ (AreOnOneLine d f.edge e.edge × (j < i)) → ⊥
        clash e f (inl under) (inl over) =
            under_one_way d low high low_in high_in wide e.edge f.edge under over
        clash e f (inl under) (inr one) =
            under_not_one_line d low high low_in high_in wide e.edge f.edge under
            (one_line_turned d f.edge e.edge one.0)
        clash e f (inr one) (inl over) =
            under_not_one_line d low high low_in high_in wide f.edge e.edge over
            (one_line_turned d e.edge f.edge one.0)
        clash e f (inr one) (inr other) = absurd (omega (arith, one.1, other.1))

    -- a slab has one order
    pub slab_order_is_one : (xs ys : List ℕ) → IsSlabOrder edges d low high xs
        → IsSlabOrder edges d low high ys → xs ≡ ys
    slab_order_is_one xs ys first second =
        one_sorted_order (IsUnderOver edges d low high) xs ys (spanning_places edges d low high)
        first.spanning second.spanning first.ordered second.ordered before_one_way

-- ---- of two one comes first

-- two edges at one place are one
same_at : (edges : List PlanEdge) (k : ℕ) (e f : PlanEdge) → slice_get edges k ≡ Some e
    → slice_get edges k ≡ Some f → e ≡ f
same_at edges k e f at_e at_f = same_Some e f (sym at_e ∙ at_f)

module _ (edges : List PlanEdge) (d low high : Arrow) (i j : ℕ) (e f : PlanEdge)
    (at_e : slice_get edges i ≡ Some e) (at_f : slice_get edges j ≡ Some f) where
  -- what comes first by its edge comes first by its place
  pub before_by_edges :
      IsUnder d low high e.edge f.edge ⊎ (AreOnOneLine d e.edge f.edge × (i < j))
      → IsUnderOver edges d low high i j
  before_by_edges before g h at_g at_h =
      subst
      (λ (x : PlanEdge).
      IsUnder d low high x.edge h.edge ⊎ (AreOnOneLine d x.edge h.edge × (i < j)))
      (same_at edges i e g at_e at_g)
      (subst
      (λ (x : PlanEdge).
      IsUnder d low high e.edge x.edge ⊎ (AreOnOneLine d e.edge x.edge × (i < j)))
      (same_at edges j f h at_f at_h) before)

-- of two spanning places of a model that differ one comes before the other
pub one_comes_first : (m : Building) (d low high : Arrow) → IsWay d → IsSlab m d low high
    → (i j : ℕ) → Stands i (spanning_places (plan_edges m) d low high)
    → Stands j (spanning_places (plan_edges m) d low high) → (i ≡ j → ⊥)
    → IsUnderOver (plan_edges m) d low high i j ⊎ IsUnderOver (plan_edges m) d low high j i
one_comes_first m d low high d_is slab i j at_i at_j apart =
    let p = spans_at (plan_edges m) d low high i at_i in
    let q = spans_at (plan_edges m) d low high j at_j in
    from p.edge q.edge p.there q.there
    (one_lies_below m d low high d_is slab p.edge q.edge
    (stands_at (plan_edges m) i p.edge p.there) (stands_at (plan_edges m) j q.edge q.there) p.spans
    q.spans) (cases_lt i j)
  where
    from : (e f : PlanEdge) → slice_get (plan_edges m) i ≡ Some e
        → slice_get (plan_edges m) j ≡ Some f
        → IsUnder d low high e.edge f.edge
        ⊎ (AreOnOneLine d e.edge f.edge ⊎ IsUnder d low high f.edge e.edge)
        → (i < j) ⊎ (j ≤ i)
        → IsUnderOver (plan_edges m) d low high i j ⊎ IsUnderOver (plan_edges m) d low high j i
    from e f at_e at_f (inl under) _ =
        inl (before_by_edges (plan_edges m) d low high i j e f at_e at_f (inl under))
    from e f at_e at_f (inr (inr over)) _ =
        inr (before_by_edges (plan_edges m) d low high j i f e at_f at_e (inl over))
    from e f at_e at_f (inr (inl one)) (inl less) =
        inl (before_by_edges (plan_edges m) d low high i j e f at_e at_f (inr (one, less)))
    from e f at_e at_f (inr (inl one)) (inr more) =
        inr (before_by_edges (plan_edges m) d low high j i f e at_f at_e
        (inr (one_line_turned d e.edge f.edge one, less_if_apart more)))
      where
        less_if_apart : j ≤ i → j < i
        less_if_apart more = from_cases (cases_lt j i)
          where
            from_cases : (j < i) ⊎ (i ≤ j) → j < i
            from_cases (inl less) = less
            from_cases (inr least) = absurd (apart (omega arith))
