-- What is done in one block is done at the place's rank in the flat list.

use Rattle.std.proofs.Common.{◌≡◌, refl, sym, ap, ◌∙◌, arith, ℕ, zero, suc, ◌+◌, ◌-◌, ◌<◌, ◌≤◌}
use Rattle.std.proofs.Common.{◌⊎◌, inl, inr, List, [], ◌∷◌, ◌++◌, length, take, drop, set, add-one}
use Rattle.std.proofs.Common.{Some, get_or}
use Rattle.std.specs.List.{concat, insert, remove, slice_get}
use Rattle.std.proofs.lemmas.Bool.{cases_lt}
use Rattle.std.proofs.lemmas.List.{append_assoc, take-append-drop, set_split, set-append_left}
use Rattle.std.proofs.lemmas.List.{set-append_right, length-append, length-take-le, drop_more}
use Rattle.std.proofs.lemmas.List.{take_all, drop_all}
use Rattle.std.proofs.lemmas.List.{get_or_past, get_or_read, get_or-set_same}
use Rattle.std.proofs.lemmas.List.Edits.{insert-append_left, insert-append_right, insert_end}
use Rattle.std.proofs.lemmas.List.Edits.{remove-append_left, remove-append_right}
use Rattle.std.proofs.lemmas.List.Folds.{concat-append}
use Rattle.sb_blocks.specs.declared.place.Place.{Place}
use Rattle.sb_blocks.specs.Blocks.{block_at}
use Rattle.sb_blocks.specs.Places.{rank_of, IsPlace, IsItemPlace}

-- ---- a list in the middle of another

back : (n i : ℕ) → (n + i) - n ≡ i
back n i = omega arith

module _ {X : Type 0} (front middle behind : List X) (i : ℕ) where
  -- an insertion
  pub insert_inside : (x : X) → i ≤ length middle
      → insert (front ++ (middle ++ behind)) (length front + i) x
      ≡ front ++ (insert middle i x ++ behind)
  insert_inside x within =
      insert-append_right front (middle ++ behind) (length front) (length front + i) x refl
      (omega arith)
      ∙ ap (λ n. front ++ insert (middle ++ behind) n x) (back (length front) i)
      ∙ ap (λ l. front ++ l) (insert-append_left middle behind i x within)

  -- a removal
  pub remove_inside : i < length middle
      → remove (front ++ (middle ++ behind)) (length front + i)
      ≡ front ++ (remove middle i ++ behind)
  remove_inside within =
      remove-append_right front (middle ++ behind) (length front) (length front + i) refl
      (omega arith)
      ∙ ap (λ n. front ++ remove (middle ++ behind) n) (back (length front) i)
      ∙ ap (λ l. front ++ l) (remove-append_left middle behind i within)

  -- a replacement
  pub set_inside : (x : X) → i < length middle
      → set (front ++ (middle ++ behind)) (length front + i) x
      ≡ front ++ (set middle i x ++ behind)
  set_inside x within =
      set-append_right front (middle ++ behind) (length front) (length front + i) x refl
      (omega arith)
      ∙ ap (λ n. front ++ set (middle ++ behind) n x) (back (length front) i)
      ∙ ap (λ l. front ++ l) (set-append_left middle behind i x within)

-- what is put in behind the first h items
pub halves_high : {X : Type 0} (xs : List X) (h i : ℕ) (x : X) → h ≤ i → h ≤ length xs
    → take h xs ++ insert (drop h xs) (i - h) x ≡ insert xs i x
halves_high xs h i x behind within =
    sym
    (ap (λ l. insert l i x) (sym (take-append-drop h xs))
    ∙ insert-append_right (take h xs) (drop h xs) h i x (length-take-le h xs within) behind)

-- what stands behind the first list
pub get-append : {X : Type 0} (front rest : List X) (i : ℕ)
    → slice_get (front ++ rest) (length front + i) ≡ slice_get rest i
get-append [] rest i = ap (slice_get rest) (zero_plus i)
  where
    zero_plus : (n : ℕ) → 0 + n ≡ n
    zero_plus n = omega arith
get-append (x ∷ front) rest i =
    ap (slice_get (x ∷ (front ++ rest))) (suc_plus (length front) i) ∙ get-append front rest i
  where
    suc_plus : (n m : ℕ) → suc n + m ≡ suc (n + m)
    suc_plus n m = omega arith

get-append_left : {X : Type 0} (front rest : List X) (i : ℕ) → i < length front
    → slice_get (front ++ rest) i ≡ slice_get front i
get-append_left [] rest i within = absurd (omega arith)
get-append_left (x ∷ front) rest zero within = refl
get-append_left (x ∷ front) rest (suc i) within = get-append_left front rest i (omega arith)

-- an item of it
pub get_inside : {X : Type 0} (front middle behind : List X) (i : ℕ) → i < length middle
    → slice_get (front ++ (middle ++ behind)) (length front + i) ≡ slice_get middle i
get_inside front middle behind i within =
    get-append front (middle ++ behind) i ∙ get-append_left middle behind i within

-- ---- one block of a list in blocks

-- the items behind block b
abbrev pub behind_block : List (List ℕ) → ℕ → List ℕ
behind_block blocks b = concat (drop (suc b) blocks)

-- the items before a block, its items, and those behind it
pub joined : (blocks : List (List ℕ)) (b : ℕ) → b < length blocks
    → concat blocks ≡ concat (take b blocks) ++ (block_at blocks b ++ behind_block blocks b)
joined blocks b within =
    ap concat
    (sym (take-append-drop b blocks)
    ∙ ap (λ l. take b blocks ++ l)
    (drop_more blocks b [] within ∙ ap (λ n. block_at blocks b ∷ drop n blocks) (add-one b)))
    ∙ concat-append (take b blocks) (block_at blocks b ∷ drop (suc b) blocks)

-- with another block in its place
pub joined-set : (blocks : List (List ℕ)) (b : ℕ) (block : List ℕ) → b < length blocks
    → concat (set blocks b block) ≡ concat (take b blocks) ++ (block ++ behind_block blocks b)
joined-set blocks b block within =
    ap concat (set_split blocks b block within)
    ∙ concat-append (take b blocks) (block ∷ drop (suc b) blocks)

-- without it
pub joined-remove : (blocks : List (List ℕ)) (b : ℕ)
    → concat (remove blocks b) ≡ concat (take b blocks) ++ behind_block blocks b
joined-remove blocks b = concat-append (take b blocks) (drop (suc b) blocks)

-- with two in its place
pub set-insert : (blocks : List (List ℕ)) (b : ℕ) (front back : List ℕ) → b < length blocks
    → set (insert blocks (suc b) back) b front
    ≡ take b blocks ++ (front ∷ back ∷ drop (suc b) blocks)
set-insert [] b front back within = absurd (omega arith)
set-insert (block ∷ blocks) zero front back within = refl
set-insert (block ∷ blocks) (suc b) front back within =
    ap (λ l. block ∷ l) (set-insert blocks b front back (omega arith))

pub joined-halves : (blocks : List (List ℕ)) (b : ℕ) (front back : List ℕ) → b < length blocks
    → concat (set (insert blocks (suc b) back) b front)
    ≡ concat (take b blocks) ++ ((front ++ back) ++ behind_block blocks b)
joined-halves blocks b front back within =
    ap concat (set-insert blocks b front back within)
    ∙ concat-append (take b blocks) (front ∷ back ∷ drop (suc b) blocks)
    ∙ ap (λ l. concat (take b blocks) ++ l)
    (sym (append_assoc front back (behind_block blocks b)))

-- ---- the edits

module _ (blocks : List (List ℕ)) (place : Place) (within : place.block < length blocks) where
  -- an insertion into its block
  pub insert_in_block : (x : ℕ) → IsPlace blocks place
      → concat (set blocks place.block (insert (block_at blocks place.block) place.at x))
      ≡ insert (concat blocks) (rank_of blocks place) x
  insert_in_block x is =
      joined-set blocks place.block (insert (block_at blocks place.block) place.at x) within
      ∙ sym
      (ap (λ l. insert l (rank_of blocks place) x) (joined blocks place.block within)
      ∙ insert_inside (concat (take place.block blocks)) (block_at blocks place.block)
      (behind_block blocks place.block) place.at x is)

  -- an insertion into its block, which is halved
  pub insert_in_halves : (x : ℕ) (front back : List ℕ) → IsPlace blocks place
      → front ++ back ≡ insert (block_at blocks place.block) place.at x
      → concat (set (insert blocks (suc place.block) back) place.block front)
      ≡ insert (concat blocks) (rank_of blocks place) x
  insert_in_halves x front back is halves =
      joined-halves blocks place.block front back within
      ∙ ap (λ l. concat (take place.block blocks) ++ (l ++ behind_block blocks place.block)) halves
      ∙ sym
      (ap (λ l. insert l (rank_of blocks place) x) (joined blocks place.block within)
      ∙ insert_inside (concat (take place.block blocks)) (block_at blocks place.block)
      (behind_block blocks place.block) place.at x is)

  -- a removal
  pub remove_in_block : IsItemPlace blocks place
      → concat (set blocks place.block (remove (block_at blocks place.block) place.at))
      ≡ remove (concat blocks) (rank_of blocks place)
  remove_in_block is =
      joined-set blocks place.block (remove (block_at blocks place.block) place.at) within
      ∙ sym
      (ap (λ l. remove l (rank_of blocks place)) (joined blocks place.block within)
      ∙ remove_inside (concat (take place.block blocks)) (block_at blocks place.block)
      (behind_block blocks place.block) place.at is)

  -- a removal that leaves the block empty
  pub remove_block : IsItemPlace blocks place
      → remove (block_at blocks place.block) place.at ≡ []
      → concat (remove blocks place.block) ≡ remove (concat blocks) (rank_of blocks place)
  remove_block is empty =
      joined-remove blocks place.block
      ∙ ap (λ l. concat (take place.block blocks) ++ (l ++ behind_block blocks place.block))
      (sym empty)
      ∙ sym
      (ap (λ l. remove l (rank_of blocks place)) (joined blocks place.block within)
      ∙ remove_inside (concat (take place.block blocks)) (block_at blocks place.block)
      (behind_block blocks place.block) place.at is)

  -- a replacement
  pub replace_in_block : (x : ℕ) → IsItemPlace blocks place
      → concat (set blocks place.block (set (block_at blocks place.block) place.at x))
      ≡ set (concat blocks) (rank_of blocks place) x
  replace_in_block x is =
      joined-set blocks place.block (set (block_at blocks place.block) place.at x) within
      ∙ sym
      (ap (λ l. set l (rank_of blocks place) x) (joined blocks place.block within)
      ∙ set_inside (concat (take place.block blocks)) (block_at blocks place.block)
      (behind_block blocks place.block) place.at x is)

  -- the item
  pub get_in_block : IsItemPlace blocks place
      → slice_get (concat blocks) (rank_of blocks place)
      ≡ slice_get (block_at blocks place.block) place.at
  get_in_block is =
      ap (λ l. slice_get l (rank_of blocks place)) (joined blocks place.block within)
      ∙ get_inside (concat (take place.block blocks)) (block_at blocks place.block)
      (behind_block blocks place.block) place.at is

-- an item stands in a block that is there
pub item_in_block : (blocks : List (List ℕ)) (b at : ℕ) → at < length (block_at blocks b)
    → b < length blocks
item_in_block [] b at is = absurd (omega arith)
item_in_block (block ∷ blocks) zero at is = omega arith
item_in_block (block ∷ blocks) (suc b) at is =
    let rest = item_in_block blocks b at is in omega arith

-- an item of a block is one of the flat list
pub item_of_block : (blocks : List (List ℕ)) (place : Place) (x : ℕ) → IsItemPlace blocks place
    → slice_get (block_at blocks place.block) place.at ≡ Some x
    → slice_get (concat blocks) (rank_of blocks place) ≡ Some x
item_of_block blocks place x is there =
    get_in_block blocks place (item_in_block blocks place.block place.at is) is ∙ there

-- how long the block is that was read at a place of a slice of the blocks
pub length_read : (slice blocks : List (List ℕ)) (b : ℕ) (block : List ℕ) → slice ≡ blocks
    → b < length slice → block ≡ get_or slice b block
    → length block ≡ length (block_at blocks b)
length_read slice blocks b block same within read =
    ap length (get_or_read slice b block within read [] ∙ ap (λ l. block_at l b) same)

-- ---- the end

-- behind all blocks is the end
pub rank_of_end : (blocks : List (List ℕ)) (place : Place) → length blocks ≤ place.block
    → IsPlace blocks place → rank_of blocks place ≡ length (concat blocks)
rank_of_end blocks place beyond is =
    let whole = ap (λ l. length (concat l)) (take_all place.block blocks beyond) in
    let none = ap length (get_or_past blocks place.block [] beyond) in
    omega (arith, whole, none, is)

-- no place is behind it
pub rank_within : (blocks : List (List ℕ)) (place : Place) → IsPlace blocks place
    → rank_of blocks place ≤ length (concat blocks)
rank_within blocks place is = from (cases_lt place.block (length blocks))
  where
    there : place.block < length blocks → rank_of blocks place ≤ length (concat blocks)
    there within =
        let whole = ap length (joined blocks place.block within) in
        let parts = length-append (concat (take place.block blocks))
        (block_at blocks place.block ++ behind_block blocks place.block) in
        let rest = length-append (block_at blocks place.block) (behind_block blocks place.block) in
        omega (arith, whole, parts, rest, is)

    from : (place.block < length blocks) ⊎ (length blocks ≤ place.block)
        → rank_of blocks place ≤ length (concat blocks)
    from (inl within) = there within
    from (inr past) = let end = rank_of_end blocks place past is in omega (arith, end)

-- behind the last item of the last block is the end too
pub rank_behind_last : (blocks : List (List ℕ)) (place : Place) → place.block + 1 ≡ length blocks
    → place.at ≡ length (block_at blocks place.block)
    → rank_of blocks place ≡ length (concat blocks)
rank_behind_last blocks place last end =
    let none = ap concat (drop_all (suc place.block) blocks (omega (arith, last))) in
    let whole = ap length (joined blocks place.block (omega (arith, last))) in
    let parts = length-append (concat (take place.block blocks))
    (block_at blocks place.block ++ behind_block blocks place.block) in
    let rest = length-append (block_at blocks place.block) (behind_block blocks place.block) in
    let nothing = ap length none in
    omega (arith, whole, parts, rest, nothing, end)

-- so what is put there is the last item
pub insert_behind_last : (blocks : List (List ℕ)) (place : Place) (x : ℕ)
    → place.block + 1 ≡ length blocks → place.at ≡ length (block_at blocks place.block)
    → insert (concat blocks) (rank_of blocks place) x ≡ concat blocks ++ (x ∷ [])
insert_behind_last blocks place x last end =
    ap (λ n. insert (concat blocks) n x) (rank_behind_last blocks place last end)
    ∙ insert_end (concat blocks) x

-- ---- what is taken away after it was changed

-- does not matter
pub remove-set : {X : Type 0} (xs : List X) (i : ℕ) (y : X) → remove (set xs i y) i ≡ remove xs i
remove-set [] i y = refl
remove-set (x ∷ xs) zero y = refl
remove-set (x ∷ xs) (suc i) y = ap (λ l. x ∷ l) (remove-set xs i y)

-- what is read at the place of a block that was changed is the changed block
pub left_in_block : (blocks : List (List ℕ)) (b : ℕ) (rest : List ℕ) (changed : List (List ℕ))
    (block : List ℕ) → b < length blocks → changed ≡ set blocks b rest
    → block ≡ get_or changed b block → block ≡ rest
left_in_block blocks b rest changed block within same read =
    read ∙ ap (λ l. get_or l b block) same ∙ get_or-set_same blocks b rest block within
