-- The places of the edges of a table in order are sorted by what leads just after the abscissa.

use Rattle.std.proofs.Common.{◌≡◌, ◌⊎◌, inl, inr, refl, sym, ap, ap₂, ◌∙◌, subst, arith, ℕ, zero, suc, ◌<◌}
use Rattle.std.proofs.Common.{◌≤◌, Bool, true, false, IsTrue, List, [], ◌∷◌, ◌++◌, map, length}
use Rattle.std.proofs.Common.{get_or, take, slice_get, Some, IsPermutation, if◌then◌else◌}
use Rattle.std.proofs.Common.{Result, Ok, Err, IfOk}
use Rattle.std.specs.declared.alloc.AllocError.{AllocError}
use Rattle.std.specs.List.{AllByRecursion, list_all}
use Rattle.std.specs.Option.{option_map}
use Rattle.std.specs.declared.cmp.Ordering.TheVariants.{Less, Equal, Greater}
use Rattle.std.specs.Ordering.{is_lt, ordering_then, nat_cmp}
use Rattle.std.proofs.Math.Seq.{take-suc, take-length}
use Rattle.std.proofs.lemmas.Bool.{and_from}
use Rattle.std.proofs.lemmas.Bool.Decides.{nat_tests}
use Rattle.std.proofs.lemmas.List.{map-append}
use Rattle.std.proofs.lemmas.List.Sorted.{IsPermutation-map, IsPermutation-sym, IsPermutation-refl}
use Rattle.std.proofs.Common.{None}
use Rattle.std.proofs.lemmas.Option.{same_Some, none-some}
use Rattle.theory_lists.specs.Members.{Stands, AllOfTwo}
use Rattle.theory_lists.proofs.InAnyOrder.{stands_permuted, two_permuted}
use Rattle.theory_lists.proofs.Members.{all_stands, all_follow, two_follow, two_of_images, stands_at}
use Rattle.theory_numbers.specs.Arrows.{Arrow}
use Rattle.theory_numbers.specs.Fractions.{Ratio}
use Rattle.theory_plane.specs.Sides.{LineSide}
use Rattle.theory_plane.specs.Leads.{leads, order_past}
use Rattle.sb_fraction.specs.declared.direction.Direction.{Direction}
use Rattle.sb_fraction.specs.Bounds.{is_abscissa_size}
use Rattle.sb_fraction.specs.Edges.{Edge, edge_of}
use Rattle.sb_fraction.specs.Lines.{arrow_along, line_over, reaches_past}
use Rattle.sb_fraction.specs.Numbers.{number}
use Rattle.sb_fraction.specs.Orders.{is_over}
use Rattle.sb_model.specs.PlanEdges.{PlanEdge}
use Rattle.theory_lines.specs.Slabs.{places_from, LeadsAt}
use Rattle.sb_slab.specs.declared.item.Reaching.{Reaching}
use Rattle.sb_slab.specs.Reaching.{IsAtPlace, AreReaching}
use Rattle.sb_slab.specs.Sorted.{IsSortedAt, numbers_to, AreSorted, IsSortedTable}
use Rattle.sb_slab.specs.Table.{Lines, lines, is_table, item_at, line_at, order_of_two, places_of}

-- ---- a table of edges that reach

all_over : (d : Direction) (at : Ratio) (list : List Reaching)
    → AllByRecursion
    (λ r. reaches_past (arrow_along d) (number at) (edge_of r.segment) ≡ true) list
    → list_all (λ r. is_over d r.segment at) list ≡ true
all_over d at [] all = refl
all_over d at (r ∷ list) all =
    and_from (is_over d r.segment at) (list_all (λ q. is_over d q.segment at) list) all.0
    (all_over d at list all.1)

stands_at_place : {X : Type 0} (xs : List X) (k : ℕ) (d : X) → k < length xs
    → Stands (get_or xs k d) xs
stands_at_place [] k d there = absurd (omega arith)
stands_at_place (x ∷ xs) zero d there = inl refl
stands_at_place (x ∷ xs) (suc k) d there = inr (stands_at_place xs k d (omega arith))

-- edges that reach are a table, with one of them for the first
pub reaching_is_table : (d : Direction) (at : Ratio) (edges : List PlanEdge) (first : Reaching)
    (list : List Reaching) → IsTrue (is_abscissa_size at)
    → AreReaching (arrow_along d) (number at) edges list → slice_get list 0 ≡ Some first
    → IsTrue (is_table (lines d at first list))
reaching_is_table d at edges first list size are here =
    let test : Reaching → Bool = λ r. is_over d r.segment at in
    and_from (is_abscissa_size at) (list_all test (first ∷ list)) size
    (and_from (test first) (list_all test list)
    (all_stands (λ r. test r ≡ true) first list are.reach (stands_at list 0 first here))
    (all_over d at list are.reach))

-- ---- the numbers of the edges of a table

in_one_part : {X : Type 0} (x : X) (xs ys : List X) → Stands x (xs ++ ys)
    → Stands x xs ⊎ Stands x ys
in_one_part x [] ys at = inr at
in_one_part x (y ∷ xs) ys (inl same) = inl (inl same)
in_one_part x (y ∷ xs) ys (inr later) = behind (in_one_part x xs ys later)
  where
    behind : Stands x xs ⊎ Stands x ys → Stands x (y ∷ xs) ⊎ Stands x ys
    behind (inl there) = inl (inr there)
    behind (inr there) = inr there

numbers_below : (n i : ℕ) → Stands i (numbers_to n) → i < n
numbers_below zero i at = absurd at
numbers_below (suc n) i at =
    from (in_one_part i (numbers_to n) (n ∷ []) at) (numbers_below n i)
  where
    from : Stands i (numbers_to n) ⊎ Stands i (n ∷ []) → (Stands i (numbers_to n) → i < n)
        → i < suc n
    from (inl earlier) rest = let less = rest earlier in omega arith
    from (inr (inl same)) rest = omega arith
    from (inr (inr none)) rest = absurd none

module _ (t : Lines) where
  abbrev place : ℕ → ℕ
  place i = (item_at t i).place

  -- the places of the first k edges
  first_places : (k : ℕ) → k ≤ length t.edges
      → places_of t (numbers_to k) ≡ map (λ r. r.place) (take k t.edges)
  first_places zero within = refl
  first_places (suc k) within =
      map-append place (numbers_to k) (k ∷ [])
      ∙ ap₂ (λ xs x. xs ++ x ∷ []) (first_places k (omega arith)) refl
      ∙ sym
      (ap (map (λ (r : Reaching). r.place)) (take-suc t.edges k t.first (omega arith))
      ∙ map-append (λ (r : Reaching). r.place) (take k t.edges) (get_or t.edges k t.first ∷ []))

  all_places : places_of t (numbers_to (length t.edges)) ≡ map (λ r. r.place) t.edges
  all_places =
      first_places (length t.edges) (omega arith)
      ∙ ap (map (λ (r : Reaching). r.place)) (take-length t.edges)

-- ---- places are apart

places_rise : {X : Type 0} (test : X → Bool) (n : ℕ) (xs : List X)
    → AllByRecursion (λ k. n ≤ k) (places_from test n xs) × AllOfTwo (λ j k. j < k) (places_from test n xs)
places_rise test n [] = (tt, tt)
places_rise test n (x ∷ xs) = from (test x) (places_rise test (suc n) xs)
  where
    weak : {k l : ℕ} → suc k ≤ l → k ≤ l
    weak most = omega arith

    less : {k l : ℕ} → suc k ≤ l → k < l
    less most = omega arith

    from : (b : Bool)
        → AllByRecursion (λ k. suc n ≤ k) (places_from test (suc n) xs)
        × AllOfTwo (λ j k. j < k) (places_from test (suc n) xs)
        → AllByRecursion (λ k. n ≤ k)
        (if b then n ∷ places_from test (suc n) xs else places_from test (suc n) xs)
        × AllOfTwo (λ j k. j < k)
        (if b then n ∷ places_from test (suc n) xs else places_from test (suc n) xs)
    from true rest = (
      (omega arith, all_follow (λ k most. weak most) (places_from test (suc n) xs) rest.0),
      (all_follow (λ k most. less most) (places_from test (suc n) xs) rest.0, rest.1),
    )
    from false rest =
        (all_follow (λ k most. weak most) (places_from test (suc n) xs) rest.0, rest.1)

apart_if_less : (xs : List ℕ) → AllOfTwo (λ j k. j < k) xs → AllOfTwo (λ j k. j ≡ k → ⊥) xs
apart_if_less xs rising =
    two_follow (λ j k. j < k) (λ j k. j ≡ k → ⊥) xs (λ j k j_in k_in less. other less) rising
  where
    other : {j k : ℕ} → j < k → j ≡ k → ⊥
    other less same = omega arith

two_both : {X : Type 0} (R S : X → X → Type 0) (xs : List X) → AllOfTwo R xs → AllOfTwo S xs
    → AllOfTwo (λ x y. R x y × S x y) xs
two_both R S [] first second = tt
two_both R S (x ∷ xs) first second =
    (both xs first.0 second.0, two_both R S xs first.1 second.1)
  where
    both : (ys : List _) → AllByRecursion (R x) ys → AllByRecursion (S x) ys
        → AllByRecursion (λ y. R x y × S x y) ys
    both [] one other = tt
    both (y ∷ ys) one other = ((one.0, other.0), both ys one.1 other.1)

two_images : {X Y : Type 0} (R : Y → Y → Type 0) (f : X → Y) (xs : List X)
    → AllOfTwo (λ x y. R (f x) (f y)) xs → AllOfTwo R (map f xs)
two_images R f [] all = tt
two_images R f (x ∷ xs) all = (images xs all.0, two_images R f xs all.1)
  where
    images : (ys : List _) → AllByRecursion (λ y. R (f x) (f y)) ys → AllByRecursion (R (f x)) (map f ys)
    images [] each = tt
    images (y ∷ ys) each = (each.0, images ys each.1)

-- ---- the order of two

-- what the order of two edges says that is not less the other way round
leads_or_place : (u : Arrow) (l m : LineSide) (p q : ℕ)
    → is_lt (ordering_then (order_past u m l) (nat_cmp q p)) ≡ false → (p ≡ q → ⊥)
    → (leads u l m ≡ true) ⊎ ((leads u m l ≡ false) × (p < q))
leads_or_place u l m p q weak apart = from (leads u m l) (leads u l m) refl refl weak
  where
    at_most : (a b : ℕ) → is_lt (nat_cmp a b) ≡ false → b ≤ a
    at_most a b test = grind (arith, nat_tests)

    less_if_apart : q ≡ q → p ≤ q → p < q
    less_if_apart is most = omega_less p q most apart
      where
        omega_less : (a b : ℕ) → a ≤ b → (a ≡ b → ⊥) → a < b
        omega_less a b most other = omega arith

    from : (b c : Bool) → leads u m l ≡ b → leads u l m ≡ c
        → is_lt (ordering_then (if b then Less else (if c then Greater else Equal)) (nat_cmp q p))
        ≡ false
        → (leads u l m ≡ true) ⊎ ((leads u m l ≡ false) × (p < q))
    from true c first second test = absurd cc
    from false true first second test = inl second
    from false false first second test =
        inr (first, less_if_apart refl (at_most q p test))

module _ (edges : List PlanEdge) (d : Direction) (at : Ratio) (first : Reaching)
    (list : List Reaching) (are : AreReaching (arrow_along d) (number at) edges list) where
  abbrev table : Lines
  table = lines d at first list

  at_place : (i : ℕ) → i < length list → IsAtPlace edges (get_or list i first)
  at_place i there =
      all_stands (IsAtPlace edges) (get_or list i first) list are.segments
      (stands_at_place list i first there)

  -- the edge that stands at the place of one of the table
  edge_there : (i : ℕ) → i < length list → (e : PlanEdge)
      → slice_get edges (item_at table i).place ≡ Some e → e.edge ≡ edge_of (item_at table i).segment
  edge_there i there e is =
      same_Some e.edge (edge_of (item_at table i).segment)
      (sym (ap (option_map (λ (f : PlanEdge). f.edge)) is) ∙ at_place i there)

  leads_at : (i j : ℕ) → i < length list → j < length list
      → is_lt (order_of_two table j i) ≡ false
      → ((item_at table i).place ≡ (item_at table j).place → ⊥)
      → LeadsAt edges (arrow_along d) (number at) (item_at table i).place (item_at table j).place
  leads_at i j i_in j_in weak apart e f at_e at_f =
      subst
      (λ (g : Edge).
      (leads (number at) (line_over (arrow_along d) g) (line_over (arrow_along d) f.edge) ≡ true)
      ⊎ ((leads (number at) (line_over (arrow_along d) f.edge) (line_over (arrow_along d) g) ≡ false)
      × ((item_at table i).place < (item_at table j).place)))
      (sym (edge_there i i_in e at_e))
      (subst
      (λ (g : Edge).
      (leads (number at) (line_at table i) (line_over (arrow_along d) g) ≡ true)
      ⊎ ((leads (number at) (line_over (arrow_along d) g) (line_at table i) ≡ false)
      × ((item_at table i).place < (item_at table j).place)))
      (sym (edge_there j j_in f at_f))
      (leads_or_place (number at) (line_at table i) (line_at table j) (item_at table i).place
      (item_at table j).place weak apart))

  whole : places_of table (numbers_to (length list))
      ≡ places_from (λ e. reaches_past (arrow_along d) (number at) e.edge) 0 edges
  whole = all_places table ∙ are.places

  sorted_numbers : (numbers : List ℕ) → AreSorted table numbers
      → IsSortedAt edges (arrow_along d) (number at) (places_of table numbers)
  sorted_numbers numbers sorted =
      record {
        places =
            IsPermutation-sym
            (places_from (λ e. reaches_past (arrow_along d) (number at) e.edge) 0 edges)
            (places_of table numbers) permuted;
        sorted =
            two_images (LeadsAt edges (arrow_along d) (number at)) (λ i. (item_at table i).place)
            numbers
            (two_follow
            (λ i j. (is_lt (order_of_two table j i) ≡ false)
            × ((item_at table i).place ≡ (item_at table j).place → ⊥))
            (λ i j.
            LeadsAt edges (arrow_along d) (number at) (item_at table i).place (item_at table j).place)
            numbers
            (λ i j i_in j_in both. leads_at i j (within i i_in) (within j j_in) both.0 both.1)
            (two_both (λ i j. is_lt (order_of_two table j i) ≡ false)
            (λ i j. (item_at table i).place ≡ (item_at table j).place → ⊥) numbers sorted.sorted
            (two_of_images (λ p q. p ≡ q → ⊥) (λ i. (item_at table i).place) numbers apart)));
      }
    where
      permuted : IsPermutation
          (places_from (λ e. reaches_past (arrow_along d) (number at) e.edge) 0 edges)
          (places_of table numbers)
      permuted =
          subst (λ (ps : List ℕ). IsPermutation ps (places_of table numbers)) whole
          (IsPermutation-map (λ i. (item_at table i).place) (numbers_to (length list)) numbers
          sorted.permuted)

      apart : AllOfTwo (λ p q. p ≡ q → ⊥) (places_of table numbers)
      apart =
          two_permuted (λ p q. p ≡ q → ⊥) (λ p q other same. other (sym same))
          (places_from (λ e. reaches_past (arrow_along d) (number at) e.edge) 0 edges)
          (places_of table numbers) permuted
          (apart_if_less
          (places_from (λ e. reaches_past (arrow_along d) (number at) e.edge) 0 edges)
          (places_rise (λ e. reaches_past (arrow_along d) (number at) e.edge) 0 edges).1)

      within : (i : ℕ) → Stands i numbers → i < length list
      within i at =
          numbers_below (length list) i
          (stands_permuted i numbers (numbers_to (length list))
          (IsPermutation-sym (numbers_to (length list)) numbers sorted.permuted) at)

  -- the sorted places of the table are those of the edges that reach
  pub table_sorted : (order : List ℕ) → IsSortedTable table order
      → IsSortedAt edges (arrow_along d) (number at) order
  table_sorted order (numbers, (sorted, same)) =
      subst (IsSortedAt edges (arrow_along d) (number at)) (sym same) (sorted_numbers numbers sorted)

pub if_sorted : (edges : List PlanEdge) (d : Direction) (at : Ratio) (first : Reaching)
    (list : List Reaching) → AreReaching (arrow_along d) (number at) edges list
    → (r : Result (List ℕ) AllocError) → IfOk r (IsSortedTable (lines d at first list))
    → IfOk r (IsSortedAt edges (arrow_along d) (number at))
if_sorted edges d at first list are (Ok order) sorted =
    table_sorted edges d at first list are order sorted
if_sorted edges d at first list are (Err e) sorted = tt

-- where no edge reaches there is nothing to sort
pub none_sorted : (edges : List PlanEdge) (d u : Arrow) (list : List Reaching) (order : List ℕ)
    → AreReaching d u edges list → slice_get list 0 ≡ None → order ≡ [] → IsSortedAt edges d u order
none_sorted edges d u [] order are none same =
    subst (IsSortedAt edges d u) (sym same)
    (record {
      places =
          subst (λ (ps : List ℕ). IsPermutation [] ps) are.places (IsPermutation-refl []);
      sorted = tt;
    })
none_sorted edges d u (r ∷ list) order are none same = absurd (none-some r (sym none))
