-- Lists that rise strictly by an order: sorted, searched, and with an item put in at its place; and what a
-- sort says of each two items.

use Rattle.std.proofs.Common.{◌≡◌, ◌⊎◌, inl, inr, refl, ap, ◌∙◌, arith, ℕ, zero, suc, ◌<◌, ◌≤◌}
use Rattle.std.proofs.Common.{Bool, false, List, [], ◌∷◌, length, get_or, take, drop, add-one}
use Rattle.std.specs.List.{AllByRecursion, AllWithin, insert}
use Rattle.std.specs.List.Sorted.{IsSortedBy, IsPartitionPoint}
use Rattle.std.specs.Cmp.{IsTotalOrder, IsStrictWeakOrder}
use Rattle.std.specs.declared.cmp.Ordering.{Ordering}
use Rattle.std.specs.declared.cmp.Ordering.TheVariants.{Less, Greater}
use Rattle.std.specs.Ordering.{is_lt, ordering_reverse}
use Rattle.std.proofs.lemmas.List.Sorted.{sorted_far, IsPermutation-insert, IsPermutation-sym}
use Rattle.theory_lists.specs.Members.{Stands, AllOfTwo}
use Rattle.theory_lists.proofs.InAnyOrder.{stands_permuted}
use Rattle.theory_lists.proofs.Blocks.{all-append}

-- ---- each two items, by their places

pub two_from : {X : Type 0} (R : X → X → Type 0) (xs : List X)
    → ((i j : ℕ) (d : X) → i < j → j < length xs → R (get_or xs i d) (get_or xs j d))
    → AllOfTwo R xs
two_from R [] at = tt
two_from R (x ∷ xs) at = (
  all_from (R x) xs (λ j d there. at 0 (suc j) d (omega arith) (omega arith)),
  two_from R xs (λ i j d before there. at (suc i) (suc j) d (omega arith) (omega arith)),
)
  where
    all_from : {X : Type 0} (P : X → Type 0) (ys : List X)
        → ((j : ℕ) (d : X) → j < length ys → P (get_or ys j d)) → AllByRecursion P ys
    all_from P [] each = tt
    all_from P (y ∷ ys) each =
        (each 0 y (omega arith), all_from P ys (λ j d there. each (suc j) d (omega arith)))

-- of each two items of a sorted list the later is not less
pub sorted_two : {X : Type 0} (lt : X → X → Bool) → IsStrictWeakOrder lt → (xs : List X)
    → IsSortedBy lt xs → AllOfTwo (λ x y. lt y x ≡ false) xs
sorted_two lt weak xs sorted =
    two_from (λ x y. lt y x ≡ false) xs
    (λ i j d before there. sorted_far lt weak xs sorted i j d (omega arith) there)

module _ {X : Type 0} (R : X → X → Ordering) (total : IsTotalOrder R) where
  -- each item is less than those behind it
  abbrev pub Rises : List X → Type 0
  Rises = AllOfTwo (λ x y. R x y ≡ Less)

  pub turned_less : (x y : X) → R x y ≡ Less → R y x ≡ Greater
  turned_less x y less = total.antisymm y x ∙ ap ordering_reverse less

  pub turned_greater : (x y : X) → R x y ≡ Greater → R y x ≡ Less
  turned_greater x y greater = total.antisymm y x ∙ ap ordering_reverse greater

  -- a list that rises is sorted
  pub rising_is_sorted : (xs : List X) → Rises xs → IsSortedBy (λ x y. is_lt (R x y)) xs
  rising_is_sorted [] rises k d low there = absurd (omega arith)
  rising_is_sorted (x ∷ []) rises k d low there = absurd (omega arith)
  rising_is_sorted (x ∷ y ∷ ys) rises zero d low there =
      ap is_lt (turned_less x y rises.0.0)
  rising_is_sorted (x ∷ y ∷ ys) rises (suc k) d low there =
      rw (add-one (suc k)) (rw (add-one k) at (rising_is_sorted (y ∷ ys) rises.1 k d (omega arith) (omega arith)))

  all_greater : (x : X) (ys : List X) (k : ℕ)
      → AllWithin (λ y. R y x ≡ Greater) ys 0 (length ys) → AllByRecursion (λ y. R x y ≡ Less) ys
  all_greater x [] k each = tt
  all_greater x (y ∷ ys) k each = (
    turned_greater y x (each 0 y (omega arith) (omega arith)),
    all_greater x ys k (λ j d low there. each (suc j) d (omega arith) (omega arith)),
  )

  all_taken : (P : X → Type 0) (n : ℕ) (xs : List X) → AllByRecursion P xs
      → AllByRecursion P (take n xs)
  all_taken P zero xs all = tt
  all_taken P (suc n) [] all = tt
  all_taken P (suc n) (x ∷ xs) all = (all.0, all_taken P n xs all.1)

  all_dropped : (P : X → Type 0) (n : ℕ) (xs : List X) → AllByRecursion P xs
      → AllByRecursion P (drop n xs)
  all_dropped P zero xs all = all
  all_dropped P (suc n) [] all = tt
  all_dropped P (suc n) (x ∷ xs) all = all_dropped P n xs all.1

  -- an item put in between the lesser and the greater
  pub insert_rises : (xs : List X) (i : ℕ) (x : X) → i ≤ length xs → Rises xs
      → IsPartitionPoint (λ y. R y x ≡ Less) (λ y. R y x ≡ Greater) xs i → Rises (insert xs i x)
  insert_rises [] zero x within rises parted = (tt, tt)
  insert_rises [] (suc i) x within rises parted = absurd (omega arith)
  insert_rises (y ∷ ys) zero x within rises parted =
      (all_greater x (y ∷ ys) 0 parted.1, rises)
  insert_rises (y ∷ ys) (suc i) x within rises parted = (
    all-append (λ z. R y z ≡ Less) (take i ys) (x ∷ drop i ys)
        (all_taken (λ z. R y z ≡ Less) i ys rises.0)
        (parted.0 0 y (omega arith) (omega arith), all_dropped (λ z. R y z ≡ Less) i ys rises.0),
    insert_rises ys i x (omega arith) rises.1 (
      λ k d low there. parted.0 (suc k) d (omega arith) (omega arith),
      λ k d low there. parted.1 (suc k) d (omega arith) (omega arith),
    ),
  )

-- what stands in a list stands in it with another item put in
pub kept_by_insert : {X : Type 0} (z : X) (xs : List X) (i : ℕ) (x : X) → Stands z xs
    → Stands z (insert xs i x)
kept_by_insert z xs i x at =
    stands_permuted z (x ∷ xs) (insert xs i x) (IsPermutation-insert xs i x) (inr at)

-- the item put in stands there
pub put_by_insert : {X : Type 0} (xs : List X) (i : ℕ) (x : X) → Stands x (insert xs i x)
put_by_insert xs i x =
    stands_permuted x (x ∷ xs) (insert xs i x) (IsPermutation-insert xs i x) (inl refl)

-- and nothing else is new
pub only_by_insert : {X : Type 0} (z : X) (xs : List X) (i : ℕ) (x : X)
    → Stands z (insert xs i x) → (z ≡ x) ⊎ Stands z xs
only_by_insert z xs i x at =
    stands_permuted z (insert xs i x) (x ∷ xs)
    (IsPermutation-sym (x ∷ xs) (insert xs i x) (IsPermutation-insert xs i x)) at
