-- What is sorted just after the next abscissa is the order of the slab that begins there.

use Rattle.std.proofs.Common.{◌≡◌, ◌⊎◌, inl, inr, refl, sym, ap, ap₂, ◌∙◌, subst, arith, ℕ, zero, suc, ◌<◌}
use Rattle.std.proofs.Common.{◌≤◌, ◌+◌, pos, ◌<ℤ◌, Bool, true, ◌&&◌, IsTrue, int_lt}
use Rattle.std.proofs.Common.{List, [], ◌∷◌, ◌++◌, map, length, drop, slice_get, Option, Some, None}
use Rattle.std.proofs.Common.{IsPermutation, if◌then◌else◌, append_assoc, nat_le, unsigned_abs, add-one}
use Rattle.std.specs.List.{AllByRecursion, list_all}
use Rattle.std.specs.Option.{option_map}
use Rattle.std.specs.Ordering.{int_eq}
use Rattle.std.proofs.lemmas.Int.{ints}
use Rattle.std.proofs.Common.{IfSome, nat_lt}
use Rattle.std.proofs.lemmas.Bool.{and_parts, and_from, or_cases, lt-ltb}
use Rattle.std.proofs.lemmas.Bool.Decides.{Decides-int_eq}
use Rattle.std.proofs.lemmas.List.{length-map, length-drop}
use Rattle.std.proofs.lemmas.Option.{same_Some, none-some}
use Rattle.theory_lists.specs.Members.{Stands}
use Rattle.theory_lists.proofs.Members.{all_that_stand}
use Rattle.theory_numbers.specs.Arrows.{Arrow}
use Rattle.theory_numbers.specs.Divisors.{are_coprime}
use Rattle.theory_numbers.specs.Fractions.{Ratio}
use Rattle.theory_numbers.proofs.Products.{positive_product, weak_square}
use Rattle.theory_numbers.proofs.Fractions.Rationals.{at_most_refl}
use Rattle.theory_numbers.proofs.Shapes.{dot_eq}
use Rattle.theory_numbers.proofs.Signs.{same_tests, less_from}
use Rattle.theory_parity.specs.Below.{IsWay}
use Rattle.sb_fraction.specs.declared.direction.Direction.{Direction}
use Rattle.sb_fraction.specs.Bounds.{is_abscissa_size, is_fraction}
use Rattle.sb_fraction.specs.Lines.{arrow_along, reaches_past}
use Rattle.sb_fraction.specs.Numbers.{number}
use Rattle.sb_fraction.specs.Plane.{is_forward, longest_step}
use Rattle.sb_model.specs.Building.{Building}
use Rattle.sb_model.specs.Surfaces.Sides.{is_abscissa_size as is_end_size}
use Rattle.sb_model.specs.PlanEdges.{PlanEdge, plan_edges}
use Rattle.theory_lines.specs.Slabs.{AreAbscissae, AreNeighbours, IsSlab, is_spanning, places_from}
use Rattle.theory_lines.specs.Slabs.{spanning_places, IsSlabOrder}
use Rattle.theory_lines.proofs.NeighboursInAList.{neighbours_in_list}
use Rattle.theory_lines.proofs.EdgesOverASlab.{spanning_reaches, reaching_spans}
use Rattle.theory_lines.proofs.SortedByLeads.{sorted_is_slab_order}
use Rattle.sb_frame.specs.declared.slab.Slab.{Slab}
use Rattle.sb_slab.specs.Slabs.{SlabsLeft, HasLeft, IsNext, is_within, are_ends}
use Rattle.sb_slab.specs.Sorted.{IsSortedAt}

-- ---- a direction is a way

way_if : (d : Arrow) → (pos 0 <ℤ d.x) ⊎ (d.y ≡ pos 1) → IsWay d
way_if d (inl right) =
    let whole = dot_eq d d in
    let x = positive_product d.x d.x right right in
    let y = weak_square d.y in
    omega (arith, ints)
way_if d (inr up) =
    let whole = dot_eq d d in
    let x = weak_square d.x in
    let y = positive_product d.y d.y (omega (arith, ints)) (omega (arith, ints)) in
    omega (arith, ints)

pub direction_is_way : (d : Direction) → IsWay (arrow_along d)
direction_is_way d =
    way_if (arrow_along d)
    (from (or_cases (int_lt (pos 0) d.x) (int_eq d.x (pos 0) && int_eq d.y (pos 1)) forward))
  where
    forward : is_forward d.x d.y ≡ true
    forward =
        (and_parts (are_coprime (unsigned_abs d.x) (unsigned_abs d.y)) (is_forward d.x d.y)
        (and_parts (are_coprime (unsigned_abs d.x) (unsigned_abs d.y) && is_forward d.x d.y)
        (nat_le (unsigned_abs d.x) longest_step)
        (and_parts (are_coprime (unsigned_abs d.x) (unsigned_abs d.y) && is_forward d.x d.y
        && nat_le (unsigned_abs d.x) longest_step) (nat_le (unsigned_abs d.y) longest_step)
        d.is_direction).0).0).1

    from : (int_lt (pos 0) d.x ≡ true) ⊎ ((int_eq d.x (pos 0) && int_eq d.y (pos 1)) ≡ true)
        → (pos 0 <ℤ d.x) ⊎ (d.y ≡ pos 1)
    from (inl right) = inl (less_from (pos 0) d.x right)
    from (inr up) =
        inr ((Decides-int_eq d.y (pos 1)).0 (and_parts (int_eq d.x (pos 0)) (int_eq d.y (pos 1)) up).1)

-- ---- the abscissae that are left

none_at : {X : Type 0} (k : ℕ) → slice_get {X = X} [] k ≡ None
none_at zero = refl
none_at (suc k) = refl

pub left_at : (list : List Ratio) (n k i : ℕ) → i ≡ n + k
    → slice_get (map number (drop n list)) k ≡ option_map number (slice_get list i)
left_at [] zero k i there = none_at k ∙ sym (ap (option_map number) (none_at i))
left_at [] (suc n) k i there = none_at k ∙ sym (ap (option_map number) (none_at i))
left_at (r ∷ list) zero zero zero there = refl
left_at (r ∷ list) zero zero (suc i) there = absurd (omega arith)
left_at (r ∷ list) zero (suc k) zero there = absurd (omega arith)
left_at (r ∷ list) zero (suc k) (suc i) there = left_at list zero k i (omega arith)
left_at (r ∷ list) (suc n) k zero there = absurd (omega arith)
left_at (r ∷ list) (suc n) k (suc i) there = left_at list n k i (omega arith)

pub few_left : (list : List Ratio) (n : ℕ) → length list ≤ n + 1
    → length (map number (drop n list)) ≤ 1
few_left list n most =
    let same = length-map (drop n list) number in
    let less = length-drop n list in
    omega arith

pub two_left : (xs : List Arrow) (b : Arrow) → slice_get xs 1 ≡ Some b → length xs ≤ 1 → ⊥
two_left [] b at few = none-some b at
two_left (a ∷ []) b at few = none-some b at
two_left (a ∷ c ∷ xs) b at few = absurd (omega arith)

size_at : (list : List Ratio) (n : ℕ) (r : Ratio) → list_all is_abscissa_size list ≡ true
    → slice_get list n ≡ Some r → is_abscissa_size r ≡ true
size_at [] zero r all at = absurd (none-some r at)
size_at [] (suc n) r all at = absurd (none-some r at)
size_at (s ∷ list) zero r all at =
    ap is_abscissa_size (sym (same_Some s r at))
    ∙ (and_parts (is_abscissa_size s) (list_all is_abscissa_size list) all).0
size_at (s ∷ list) (suc n) r all at =
    size_at list n r (and_parts (is_abscissa_size s) (list_all is_abscissa_size list) all).1 at

pub size_of_next : (list : List Ratio) (n : ℕ) (r : Ratio) → IsTrue (is_within list n)
    → slice_get list n ≡ Some r → IsTrue (is_abscissa_size r)
size_of_next list n r is at =
    size_at list n r (and_parts (nat_le n (length list)) (list_all is_abscissa_size list) is).1 at

-- of two places in the list, in lowest terms
pub ends_are : (list : List Ratio) (i j n : ℕ) (low high : Ratio) → IsTrue (is_within list n)
    → slice_get list i ≡ Some low → slice_get list j ≡ Some high
    → IsTrue (is_fraction low && is_fraction high) → IsTrue (are_ends low high)
ends_are list i j n low high is low_at high_at lowest =
    and_from (is_end_size low) (is_end_size high) (and_from (is_fraction low) _ both.0 (size i low low_at))
    (and_from (is_fraction high) _ both.1 (size j high high_at))
  where
    both : (is_fraction low ≡ true) × (is_fraction high ≡ true)
    both = and_parts (is_fraction low) (is_fraction high) lowest

    size : (k : ℕ) (r : Ratio) → slice_get list k ≡ Some r → is_abscissa_size r ≡ true
    size k r at =
        size_at list k r
        (and_parts (nat_le n (length list)) (list_all is_abscissa_size list) is).1 at

-- the next two are the first of those left
two_ahead : (xs : List Arrow) (a b : Arrow) → slice_get xs 0 ≡ Some a → slice_get xs 1 ≡ Some b
    → xs ≡ a ∷ b ∷ drop 2 xs
two_ahead [] a b first second = absurd (none-some a first)
two_ahead (x ∷ []) a b first second = absurd (none-some b second)
two_ahead (x ∷ y ∷ xs) a b first second =
    ap₂ (λ p q. p ∷ q ∷ xs) (same_Some x a first) (same_Some y b second)

-- ---- the places of spanning edges

same_places : {X : Type 0} (f g : X → Bool) (n : ℕ) (xs : List X)
    → AllByRecursion (λ x. f x ≡ g x) xs → places_from f n xs ≡ places_from g n xs
same_places f g n [] all = refl
same_places f g n (x ∷ xs) all =
    ap₂ (λ (b : Bool) (ks : List ℕ). if b then n ∷ ks else ks) all.0
    (same_places f g (suc n) xs all.1)

module _ (m : Building) (d low high : Arrow) (slab : IsSlab m d low high) where
  spans_where_reaches : (e : PlanEdge) → Stands e (plan_edges m)
      → reaches_past d low e.edge ≡ is_spanning d low high e.edge
  spans_where_reaches e e_in =
      same_tests (reaches_past d low e.edge) (is_spanning d low high e.edge)
      (λ reaches.
      reaching_spans m d low high slab low slab.low_in (at_most_refl low) slab.wide e e_in reaches)
      (λ spans.
      spanning_reaches d low high low slab.low_in slab.high_in slab.low_in e.edge spans
      (at_most_refl low) slab.wide)

  reaching_places : places_from (λ e. reaches_past d low e.edge) 0 (plan_edges m)
      ≡ spanning_places (plan_edges m) d low high
  reaching_places =
      same_places (λ (e : PlanEdge). reaches_past d low e.edge)
      (λ (e : PlanEdge). is_spanning d low high e.edge) 0 (plan_edges m)
      (all_that_stand
      (λ (e : PlanEdge). reaches_past d low e.edge ≡ is_spanning d low high e.edge) (plan_edges m)
      spans_where_reaches)

  -- sorted just after low is the order of the slab
  sorted_is_order : IsWay d → (order : List ℕ) → IsSortedAt (plan_edges m) d low order
      → IsSlabOrder (plan_edges m) d low high order
  sorted_is_order d_is order sorted =
      sorted_is_slab_order m d low high d_is slab order
      (subst (λ (ps : List ℕ). IsPermutation order ps) reaching_places sorted.places) sorted.sorted

-- ---- the next slab

module _ (m : Building) (d : Arrow) (passed : List Arrow) (old new : SlabsLeft) (s : Slab)
    (has : HasLeft m d passed old)
    (low : slice_get old.left 0 ≡ Some (number s.low))
    (high : slice_get old.left 1 ≡ Some (number s.high)) where
  abbrev back : List Arrow
  back = drop 2 old.left

  split : old.left ≡ number s.low ∷ number s.high ∷ back
  split = two_ahead old.left (number s.low) (number s.high) low high

  all_split : AreAbscissae m d (passed ++ number s.low ∷ number s.high ∷ back)
  all_split = subst (λ (xs : List Arrow). AreAbscissae m d (passed ++ xs)) split has.abscissae

  neighbours : AreNeighbours m d (number s.low) (number s.high)
  neighbours = neighbours_in_list m d (number s.low) (number s.high) passed back all_split

  -- it is told, and the rest is left
  pub next_slab : IsWay old.direction → new.edges ≡ old.edges → new.direction ≡ old.direction
      → new.left ≡ drop 1 old.left → arrow_along s.direction ≡ old.direction
      → IsSortedAt old.edges old.direction (number s.low) s.order
      → IsNext m d passed old new s
  next_slab d_is same_edges same_direction shorter along sorted =
      record {
        direction = along ∙ has.direction;
        low = split ∙ ap (λ xs. number s.low ∷ xs) (sym left_is);
        high = ap (λ xs. slice_get xs 0) left_is;
        neighbours = neighbours;
        order =
            sorted_is_order m d (number s.low) (number s.high) neighbours.slab
            (subst IsWay has.direction d_is) s.order
            (subst (λ (es : List PlanEdge). IsSortedAt es d (number s.low) s.order) has.edges
            (subst (λ (e : Arrow). IsSortedAt old.edges e (number s.low) s.order) has.direction
            sorted));
        rest =
            record {
              edges = same_edges ∙ has.edges;
              direction = same_direction ∙ has.direction;
              abscissae =
                  subst (λ (xs : List Arrow). AreAbscissae m d xs)
                  (sym
                  (append_assoc passed (number s.low ∷ []) new.left
                  ∙ ap (λ xs. passed ++ number s.low ∷ xs) left_is))
                  all_split;
            };
      }
    where
      left_is : new.left ≡ number s.high ∷ back
      left_is = shorter ∙ ap (drop 1) split

-- ---- as the code keeps them

-- what follows for an answer
pub some_weaker : {X : Type 0} (o : Option X) (P Q : X → Type 0) → ((x : X) → P x → Q x)
    → IfSome o P → IfSome o Q
some_weaker (Some x) P Q step holds = step x holds
some_weaker None P Q step holds = tt

pub some_from_three : {X : Type 0} (o : Option X) (P Q R S : X → Type 0)
    → ((x : X) → P x → Q x → R x → S x) → IfSome o P → IfSome o Q → IfSome o R → IfSome o S
some_from_three (Some x) P Q R S step first second third = step x first second third
some_from_three None P Q R S step first second third = tt

-- the abscissa k places on is that of those left
pub left_from_kept : (s : SlabsLeft) (list : List Ratio) (n k i : ℕ) (r : Ratio)
    → map number (drop n list) ≡ s.left → i ≡ n + k → slice_get list i ≡ Some r
    → slice_get s.left k ≡ Some (number r)
left_from_kept s list n k i r kept there at =
    ap (λ xs. slice_get xs k) (sym kept) ∙ left_at list n k i there ∙ ap (option_map number) at

drop_more : {X : Type 0} (xs : List X) (n : ℕ) → drop (suc n) xs ≡ drop 1 (drop n xs)
drop_more [] zero = refl
drop_more [] (suc n) = refl
drop_more (x ∷ xs) zero = refl
drop_more (x ∷ xs) (suc n) = drop_more xs n

map_drop : {X Y : Type 0} (f : X → Y) (xs : List X) → map f (drop 1 xs) ≡ drop 1 (map f xs)
map_drop f [] = refl
map_drop f (x ∷ xs) = refl

within_if_two : (list : List Ratio) (n : ℕ) (b : Arrow)
    → slice_get (map number (drop n list)) 1 ≡ Some b → n < length list
within_if_two [] zero b at = absurd (none-some b at)
within_if_two [] (suc n) b at = absurd (none-some b at)
within_if_two (r ∷ list) zero b at = omega arith
within_if_two (r ∷ list) (suc n) b at = let rest = within_if_two list n b at in omega arith

-- one abscissa less is left
pub one_less_left : (s : SlabsLeft) (list : List Ratio) (n len next : ℕ) (b : Arrow)
    → map number (drop n list) ≡ s.left → len ≡ length list
    → next ≡ (if nat_lt n len then n + 1 else n) → slice_get s.left 1 ≡ Some b
    → map number (drop next list) ≡ drop 1 s.left
one_less_left s list n len next b kept counted is second =
    ap (λ k. map number (drop k list)) (following ∙ add-one n)
    ∙ ap (map number) (drop_more list n) ∙ map_drop number (drop n list) ∙ ap (drop 1) kept
  where
    there : n < len
    there =
        let less = within_if_two list n b (ap (λ xs. slice_get xs 1) kept ∙ second) in
        omega (arith, counted)

    following : next ≡ n + 1
    following = is ∙ ap (λ c. if c then n + 1 else n) (lt-ltb n len there)
