-- Which edits leave each block neither empty nor too long.

use Rattle.std.proofs.Common.{◌≡◌, refl, ap, ◌∙◌, arith, ℕ, zero, suc, ◌<◌, ◌≤◌, Bool, true, ◌&&◌}
use Rattle.std.proofs.Common.{List, [], ◌∷◌, length, get_or, set, nat_lt, nat_le}
use Rattle.std.specs.List.{list_all, insert, remove}
use Rattle.std.proofs.lemmas.Bool.{and_parts, and_from}
use Rattle.std.proofs.lemmas.List.{length-set}
use Rattle.std.proofs.lemmas.List.Edits.{length-insert, length-remove}
use Rattle.sb_blocks.specs.Blocks.{is_block, are_blocks, block_at, longest_block}

module _ {X : Type 0} (test : X → Bool) where
  -- an item passes where all do
  pub all_at : (xs : List X) (i : ℕ) (d : X) → list_all test xs ≡ true → i < length xs
      → test (get_or xs i d) ≡ true
  all_at [] i d all within = absurd (omega arith)
  all_at (x ∷ xs) zero d all within = (and_parts (test x) (list_all test xs) all).0
  all_at (x ∷ xs) (suc i) d all within =
      all_at xs i d (and_parts (test x) (list_all test xs) all).1 (omega arith)

  all-set : (xs : List X) (i : ℕ) (y : X) → list_all test xs ≡ true → test y ≡ true
      → list_all test (set xs i y) ≡ true
  all-set [] i y all passes = refl
  all-set (x ∷ xs) zero y all passes =
      and_from (test y) (list_all test xs) passes (and_parts (test x) (list_all test xs) all).1
  all-set (x ∷ xs) (suc i) y all passes =
      let parts = and_parts (test x) (list_all test xs) all in
      and_from (test x) (list_all test (set xs i y)) parts.0 (all-set xs i y parts.1 passes)

  all-insert : (xs : List X) (i : ℕ) (y : X) → list_all test xs ≡ true → test y ≡ true
      → list_all test (insert xs i y) ≡ true
  all-insert xs zero y all passes = and_from (test y) (list_all test xs) passes all
  all-insert [] (suc i) y all passes = and_from (test y) true passes refl
  all-insert (x ∷ xs) (suc i) y all passes =
      let parts = and_parts (test x) (list_all test xs) all in
      and_from (test x) (list_all test (insert xs i y)) parts.0 (all-insert xs i y parts.1 passes)

  all-remove : (xs : List X) (i : ℕ) → list_all test xs ≡ true
      → list_all test (remove xs i) ≡ true
  all-remove [] zero all = refl
  all-remove [] (suc i) all = refl
  all-remove (x ∷ xs) zero all = (and_parts (test x) (list_all test xs) all).1
  all-remove (x ∷ xs) (suc i) all =
      let parts = and_parts (test x) (list_all test xs) all in
      and_from (test x) (list_all test (remove xs i)) parts.0 (all-remove xs i parts.1)

-- a list of so many items is a block
pub block_from : (n : ℕ) → 0 < n → n ≤ longest_block
    → (nat_lt 0 n && nat_le n longest_block) ≡ true
block_from n some few = grind arith

-- and a block has so many
pub block_has : (n : ℕ) → (nat_lt 0 n && nat_le n longest_block) ≡ true
    → (0 < n) × (n ≤ longest_block)
block_has n is = (grind arith, grind arith)

-- a block that is there has an item, and not too many
pub size_of_block : (blocks : List (List ℕ)) (b : ℕ) → are_blocks blocks ≡ true
    → b < length blocks
    → (0 < length (block_at blocks b)) × (length (block_at blocks b) ≤ longest_block)
size_of_block blocks b are within =
    block_has (length (block_at blocks b)) (all_at is_block blocks b [] are within)

-- with another in its place
pub set_stays : (blocks : List (List ℕ)) (b : ℕ) (block : List ℕ) → are_blocks blocks ≡ true
    → is_block block ≡ true → are_blocks (set blocks b block) ≡ true
set_stays blocks b block are is = all-set is_block blocks b block are is

-- with two
pub halves_stay : (blocks : List (List ℕ)) (b : ℕ) (front back : List ℕ) → are_blocks blocks ≡ true
    → is_block front ≡ true → is_block back ≡ true
    → are_blocks (set (insert blocks (suc b) back) b front) ≡ true
halves_stay blocks b front back are front_is back_is =
    all-set is_block (insert blocks (suc b) back) b front
    (all-insert is_block blocks (suc b) back are back_is) front_is

-- without it
pub remove_stays : (blocks : List (List ℕ)) (b : ℕ) → are_blocks blocks ≡ true
    → are_blocks (remove blocks b) ≡ true
remove_stays blocks b are = all-remove is_block blocks b are

-- one item more in a block with room
pub insert_is_block : (block : List ℕ) (i x : ℕ) → i ≤ length block
    → length block < longest_block → is_block (insert block i x) ≡ true
insert_is_block block i x within room =
    let more = length-insert block i x within in
    block_from (length (insert block i x)) (omega (arith, more)) (omega (arith, more))

-- one less, where one is left
pub remove_is_block : (block : List ℕ) (i : ℕ) → i < length block
    → length block ≤ longest_block → 0 < length (remove block i)
    → is_block (remove block i) ≡ true
remove_is_block block i within few some =
    let less = length-remove block i within in
    block_from (length (remove block i)) some (omega (arith, less))

-- one for another
pub set_is_block : (blocks : List (List ℕ)) (b i x : ℕ) → are_blocks blocks ≡ true
    → b < length blocks → is_block (set (block_at blocks b) i x) ≡ true
set_is_block blocks b i x are within =
    ap (λ n. nat_lt 0 n && nat_le n longest_block) (length-set (block_at blocks b) i x)
    ∙ all_at is_block blocks b [] are within
