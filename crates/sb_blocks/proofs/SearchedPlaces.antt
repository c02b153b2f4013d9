-- A place with an item that passes before it and one that does not behind it parts the flat list.

use Rattle.std.proofs.Common.{◌≡◌, sym, ap, ◌∙◌, arith, ℕ, zero, suc, ◌-◌, ◌<◌, ◌≤◌, ◌⊎◌, inl, inr}
use Rattle.std.proofs.Common.{Bool, true, false, List, [], ◌∷◌, ◌++◌, length, get_or, take, drop}
use Rattle.std.proofs.Common.{Option, Some, None, IfSome}
use Rattle.std.specs.List.{list_all, concat, slice_get, AllByRecursion}
use Rattle.std.proofs.lemmas.Bool.{and_parts, cases_lt, cases_order}
use Rattle.std.proofs.lemmas.List.{get_or_past}
use Rattle.std.proofs.lemmas.List.Folds.{list_all-append}
use Rattle.std.proofs.lemmas.Option.{slice_get-get_or}
use Rattle.theory_lists.specs.Parted.{IsPartedAt}
use Rattle.sb_blocks.specs.declared.place.Place.{Place}
use Rattle.sb_blocks.specs.Blocks.{are_blocks, block_at}
use Rattle.sb_blocks.specs.Places.{rank_of, item_before, IsPlace}
use Rattle.sb_blocks.proofs.EditsOfOneBlock.{joined, behind_block, get_in_block, rank_within}
use Rattle.sb_blocks.proofs.BlocksStay.{all_at, size_of_block}
use Rattle.sb_blocks.proofs.PlacesInOrder.{item_before_is, first_of_next}

if_some : {X : Type 0} (P : X → Type 0) (o : Option X) (x : X) → o ≡ Some x → P x → IfSome o P
if_some P o x is h = rw is h

if_none : {X : Type 0} (P : X → Type 0) (o : Option X) → o ≡ None → IfSome o P
if_none P o is = rw is tt

some_has : {X : Type 0} (P : X → Type 0) (o : Option X) (x : X) → o ≡ Some x → IfSome o P → P x
some_has P o x is h = rw is at h

clash : {b : Bool} → b ≡ false → b ≡ true → ⊥
clash none some = cc

-- ---- a test of all items is one of each block

-- of its items
pub all_of_block : (test : ℕ → Bool) (blocks : List (List ℕ)) (b : ℕ) → b < length blocks
    → list_all test (concat blocks) ≡ true → list_all test (block_at blocks b) ≡ true
all_of_block test blocks b within all =
    let front = concat (take b blocks) in
    let block = block_at blocks b in
    let behind = behind_block blocks b in
    let parts = and_parts (list_all test front) (list_all test (block ++ behind))
    (sym (list_all-append test front (block ++ behind))
    ∙ sym (ap (list_all test) (joined blocks b within)) ∙ all) in
    (and_parts (list_all test block) (list_all test behind)
    (sym (list_all-append test block behind) ∙ parts.1)).0

-- and of its first
pub first_of_block : (test : ℕ → Bool) (blocks : List (List ℕ)) (b : ℕ)
    → are_blocks blocks ≡ true → b < length blocks → list_all test (concat blocks) ≡ true
    → test (get_or (block_at blocks b) 0 0) ≡ true
first_of_block test blocks b are within all =
    all_at test (block_at blocks b) 0 0 (all_of_block test blocks b within all)
    (size_of_block blocks b are within).0

-- ---- what stands about a place that was found

module _ (passes : ℕ → Bool) (blocks : List (List ℕ)) (place : Place)
    (are : are_blocks blocks ≡ true) (within : place.block < length blocks)
    (is : IsPlace blocks place) where
  not_at_first : passes (get_or (block_at blocks place.block) 0 0) ≡ true
      → (place.at < length (block_at blocks place.block)
      → passes (get_or (block_at blocks place.block) place.at 0) ≡ false)
      → 0 < place.at
  not_at_first first fails = from (cases_order place.at 0)
    where
      from : (place.at ≡ 0) ⊎ ((place.at < 0) ⊎ (0 < place.at)) → 0 < place.at
      from (inl same) =
          let size = size_of_block blocks place.block are within in
          absurd
          (clash
          (sym (ap (λ n. passes (get_or (block_at blocks place.block) n 0)) same)
          ∙ fails (omega (arith, size.0, same))) first)
      from (inr (inl less)) = absurd (omega (arith, less))
      from (inr (inr more)) = more

  -- the item before it passes
  pub passes_before : passes (get_or (block_at blocks place.block) 0 0) ≡ true
      → (0 < place.at → passes (get_or (block_at blocks place.block) (place.at - 1) 0) ≡ true)
      → (place.at < length (block_at blocks place.block)
      → passes (get_or (block_at blocks place.block) place.at 0) ≡ false)
      → IfSome (item_before (concat blocks) (rank_of blocks place)) (λ x. passes x ≡ true)
  passes_before first passed fails =
      let some = not_at_first first fails in
      let previous : Place = record { block = place.block; at = place.at - 1 } in
      if_some (λ x. passes x ≡ true) (item_before (concat blocks) (rank_of blocks place))
      (get_or (block_at blocks place.block) (place.at - 1) 0)
      (item_before_is (concat blocks) (rank_of blocks place) (rank_of blocks previous)
      (omega (arith, some))
      ∙ get_in_block blocks previous within (omega (arith, some, is))
      ∙ slice_get-get_or (block_at blocks place.block) (place.at - 1) 0 (omega (arith, some, is)))
      (passed some)

  -- the one behind it does not
  pub fails_behind : (place.at < length (block_at blocks place.block)
      → passes (get_or (block_at blocks place.block) place.at 0) ≡ false)
      → (suc place.block < length blocks
      → passes (get_or (block_at blocks (suc place.block)) 0 0) ≡ false)
      → IfSome (slice_get (concat blocks) (rank_of blocks place)) (λ x. passes x ≡ false)
  fails_behind fails next = from (cases_lt place.at (length (block_at blocks place.block)))
    where
      next_block : slice_get (concat blocks) (rank_of blocks place)
          ≡ slice_get (block_at blocks (suc place.block)) 0
          → (suc place.block < length blocks) ⊎ (length blocks ≤ suc place.block)
          → IfSome (slice_get (concat blocks) (rank_of blocks place)) (λ x. passes x ≡ false)
      next_block same (inl there) =
          if_some (λ x. passes x ≡ false) (slice_get (concat blocks) (rank_of blocks place))
          (get_or (block_at blocks (suc place.block)) 0 0)
          (same
          ∙ slice_get-get_or (block_at blocks (suc place.block)) 0 0
          (size_of_block blocks (suc place.block) are there).0)
          (next there)
      next_block same (inr past) =
          if_none (λ x. passes x ≡ false) (slice_get (concat blocks) (rank_of blocks place))
          (same ∙ ap (λ l. slice_get l 0) (get_or_past blocks (suc place.block) [] past))

      from : (place.at < length (block_at blocks place.block))
          ⊎ (length (block_at blocks place.block) ≤ place.at)
          → IfSome (slice_get (concat blocks) (rank_of blocks place)) (λ x. passes x ≡ false)
      from (inl inside) =
          if_some (λ x. passes x ≡ false) (slice_get (concat blocks) (rank_of blocks place))
          (get_or (block_at blocks place.block) place.at 0)
          (get_in_block blocks place within inside
          ∙ slice_get-get_or (block_at blocks place.block) place.at 0 inside)
          (fails inside)
      from (inr end) =
          next_block (first_of_next blocks place are within (omega (arith, end, is)))
          (cases_lt (suc place.block) (length blocks))

-- ---- so it parts the list

module _ (passes : ℕ → Bool) where
  passes_below : (xs : List ℕ) (n k : ℕ) → AllByRecursion (λ x. passes x ≡ true) (take n xs)
      → k < n → k < length xs → passes (get_or xs k 0) ≡ true
  passes_below [] n k all below within = absurd (omega arith)
  passes_below (x ∷ xs) zero k all below within = absurd (omega arith)
  passes_below (x ∷ xs) (suc n) zero all below within = all.0
  passes_below (x ∷ xs) (suc n) (suc k) all below within =
      passes_below xs n k all.1 (omega arith) (omega arith)

  fails_from : (xs : List ℕ) (n k : ℕ) → AllByRecursion (λ x. passes x ≡ false) (drop n xs)
      → n ≤ k → k < length xs → passes (get_or xs k 0) ≡ false
  fails_from [] n k all from within = absurd (omega arith)
  fails_from (x ∷ xs) zero zero all from within = all.0
  fails_from (x ∷ xs) zero (suc k) all from within =
      fails_from xs zero k all.1 (omega arith) (omega arith)
  fails_from (x ∷ xs) (suc n) zero all from within = absurd (omega arith)
  fails_from (x ∷ xs) (suc n) (suc k) all from within =
      fails_from xs n k all (omega arith) (omega arith)

  -- at the one place between what passes and what does not
  pub parted_there : (xs : List ℕ) (r n : ℕ) → r ≤ length xs → n ≤ length xs
      → IfSome (item_before xs r) (λ x. passes x ≡ true)
      → IfSome (slice_get xs r) (λ x. passes x ≡ false) → IsPartedAt passes n xs → r ≡ n
  parted_there xs r n r_within n_within before behind part = from (cases_order r n)
    where
      not_less : r < n → ⊥
      not_less less =
          let there = slice_get-get_or xs r 0 (omega (arith, less, n_within)) in
          clash
          (some_has (λ x. passes x ≡ false) (slice_get xs r) (get_or xs r 0) there behind)
          (passes_below xs n r part.first less (omega (arith, less, n_within)))

      not_more : n < r → ⊥
      not_more more =
          let there = item_before_is xs r (r - 1) (omega (arith, more))
          ∙ slice_get-get_or xs (r - 1) 0 (omega (arith, more, r_within)) in
          clash
          (fails_from xs n (r - 1) part.rest (omega (arith, more))
          (omega (arith, more, r_within)))
          (some_has (λ x. passes x ≡ true) (item_before xs r) (get_or xs (r - 1) 0) there before)

      from : (r ≡ n) ⊎ ((r < n) ⊎ (n < r)) → r ≡ n
      from (inl same) = same
      from (inr (inl less)) = absurd (not_less less)
      from (inr (inr more)) = absurd (not_more more)

-- ---- the place that the halving finds

-- an item that passes is before the place, one that does not behind it, and it is not behind the
-- end
pub record IsBetween (passes : ℕ → Bool) (blocks : List (List ℕ)) (place : Place) : Type 0 where
  pub before : IfSome (item_before (concat blocks) (rank_of blocks place)) (λ x. passes x ≡ true)
  pub behind : IfSome (slice_get (concat blocks) (rank_of blocks place)) (λ x. passes x ≡ false)
  pub within : rank_of blocks place ≤ length (concat blocks)

-- so many blocks begin with an item that passes, and of the last of them so many items pass
pub is_between : (passes : ℕ → Bool) (blocks : List (List ℕ)) (count at : ℕ) (items : List ℕ)
    → are_blocks blocks ≡ true → 0 < count → count ≤ length blocks
    → passes (get_or (block_at blocks (count - 1)) 0 0) ≡ true
    → (count < length blocks → passes (get_or (block_at blocks count) 0 0) ≡ false)
    → items ≡ block_at blocks (count - 1) → at ≤ length items
    → (0 < at → passes (get_or items (at - 1) 0) ≡ true)
    → (at < length items → passes (get_or items at 0) ≡ false)
    → IsBetween passes blocks (record { block = count - 1; at = at })
is_between passes blocks count at items are some few first next same at_within passed fails =
    let place : Place = record { block = count - 1; at = at } in
    let size = ap length same in
    let is : at ≤ length (block_at blocks (count - 1)) = omega (arith, size, at_within) in
    let through : suc (count - 1) ≡ count = omega (arith, some) in
    let here_fails : at < length (block_at blocks (count - 1))
    → passes (get_or (block_at blocks (count - 1)) at 0) ≡ false =
    λ inside. sym (ap (λ l. passes (get_or l at 0)) same) ∙ fails (omega (arith, size, inside)) in
    record {
      before = passes_before passes blocks place are (omega (arith, some, few)) is first
          (λ behind_first. sym (ap (λ l. passes (get_or l (at - 1) 0)) same) ∙ passed behind_first)
          here_fails;
      behind = fails_behind passes blocks place are (omega (arith, some, few)) is here_fails
          (λ there. ap (λ n. passes (get_or (block_at blocks n) 0 0)) through
          ∙ next (omega (arith, there, through)));
      within = rank_within blocks place is;
    }
