-- Which place is the one before, and which item stands behind the last one of a block.

use Rattle.std.proofs.Common.{◌≡◌, refl, sym, ap, ◌∙◌, arith, ℕ, zero, suc, ◌+◌, ◌-◌, ◌<◌, ◌≤◌, min}
use Rattle.std.proofs.Common.{true, List, [], ◌∷◌, ◌++◌, length, take, drop, add-zero}
use Rattle.std.specs.List.{list_all, concat, slice_get}
use Rattle.std.proofs.lemmas.Bool.{and_parts, false≢true}
use Rattle.std.proofs.lemmas.List.{length-append, take_more, take_min, append-nil, take-append-drop}
use Rattle.std.proofs.lemmas.List.Folds.{concat-append}
use Rattle.sb_blocks.specs.declared.place.Place.{Place}
use Rattle.sb_blocks.specs.Blocks.{is_block, are_blocks, block_at}
use Rattle.sb_blocks.specs.Places.{rank_of, item_before}
use Rattle.sb_blocks.proofs.EditsOfOneBlock.{joined, behind_block, get-append}
use Rattle.sb_blocks.proofs.BlocksStay.{size_of_block}

-- ---- before

-- so many items are before the end of a block
pub items_through : (blocks : List (List ℕ)) (b : ℕ) → b < length blocks
    → length (concat (take (b + 1) blocks))
    ≡ length (concat (take b blocks)) + length (block_at blocks b)
items_through blocks b within =
    ap (λ l. length (concat l)) (take_more blocks b [] within)
    ∙ ap length (concat-append (take b blocks) (block_at blocks b ∷ []))
    ∙ length-append (concat (take b blocks)) (block_at blocks b ++ [])
    ∙ ap (λ l. length (concat (take b blocks)) + length l) (append-nil (block_at blocks b))

-- and not more than there are
pub items_within : (blocks : List (List ℕ)) (n : ℕ)
    → length (concat (take n blocks)) ≤ length (concat blocks)
items_within blocks n =
    let whole = ap (λ l. length (concat l)) (take-append-drop n blocks) in
    let joint = ap length (concat-append (take n blocks) (drop n blocks)) in
    let parts = length-append (concat (take n blocks)) (concat (drop n blocks)) in
    omega (arith, whole, joint, parts)

-- before the first item of a block is the last one of the block before
pub last_before : (blocks : List (List ℕ)) (place : Place) (b : ℕ) → are_blocks blocks ≡ true
    → b + 1 ≡ min place.block (length blocks) → place.at ≡ 0
    → length (concat (take b blocks)) + (length (block_at blocks b) - 1) + 1
    ≡ rank_of blocks place
last_before blocks place b are before first =
    let size = size_of_block blocks b are (omega (arith, before)) in
    let through = items_through blocks b (omega (arith, before)) in
    let same = ap (λ n. length (concat (take n blocks))) before in
    let whole = ap (λ l. length (concat l)) (take_min place.block blocks) in
    omega (arith, size.0, through, same, whole, first)

-- the item before
pub item_before_is : (items : List ℕ) (n m : ℕ) → m + 1 ≡ n
    → item_before items n ≡ slice_get items m
item_before_is items zero m next = absurd (omega arith)
item_before_is items (suc n) m next = ap (slice_get items) (omega (arith, next))

-- ---- behind

first_joined : (blocks : List (List ℕ)) → are_blocks blocks ≡ true
    → slice_get (concat blocks) 0 ≡ slice_get (block_at blocks 0) 0
first_joined [] are = refl
first_joined ([] ∷ blocks) are = absurd (false≢true are)
first_joined ((x ∷ block) ∷ blocks) are = refl

-- the first item behind the first n blocks is that of block n
pub first_behind : (blocks : List (List ℕ)) (n : ℕ) → are_blocks blocks ≡ true
    → slice_get (concat (drop n blocks)) 0 ≡ slice_get (block_at blocks n) 0
first_behind blocks zero are = first_joined blocks are
first_behind [] (suc n) are = refl
first_behind (block ∷ blocks) (suc n) are =
    first_behind blocks n (and_parts (is_block block) (list_all is_block blocks) are).1

-- behind the last item of a block stands the first one of the next
pub first_of_next : (blocks : List (List ℕ)) (place : Place) → are_blocks blocks ≡ true
    → place.block < length blocks → place.at ≡ length (block_at blocks place.block)
    → slice_get (concat blocks) (rank_of blocks place)
    ≡ slice_get (block_at blocks (suc place.block)) 0
first_of_next blocks place are within end =
    let front = concat (take place.block blocks) in
    let block = block_at blocks place.block in
    let behind = behind_block blocks place.block in
    ap (λ l. slice_get l (rank_of blocks place)) (joined blocks place.block within)
    ∙ get-append front (block ++ behind) place.at
    ∙ ap (slice_get (block ++ behind)) (end ∙ sym (add-zero (length block)))
    ∙ get-append block behind 0
    ∙ first_behind blocks (suc place.block) are

-- the place before that item has the same rank
pub next_block : (blocks : List (List ℕ)) (place : Place) → place.block < length blocks
    → place.at ≡ length (block_at blocks place.block)
    → rank_of blocks (record { block = place.block + 1; at = 0 }) ≡ rank_of blocks place
next_block blocks place within end =
    let through = items_through blocks place.block within in omega (arith, through, end)
