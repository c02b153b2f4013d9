-- Lists in blocks: none of them is empty or too long.

use Rattle.std.specs.Prelude.{ℕ, Bool, ◌&&◌, List, [], length, nat_lt, nat_le, slice_index_or}
use Rattle.std.specs.List.{list_all}

-- the most items of a block
abbrev pub longest_block : ℕ
longest_block = 1024

-- a block has an item, and not more than the most
abbrev pub is_block : List ℕ → Bool
is_block block = nat_lt 0 (length block) && nat_le (length block) longest_block

-- so has each
abbrev pub are_blocks : List (List ℕ) → Bool
are_blocks blocks = list_all is_block blocks

-- the block at this place; behind the last there is none, and no item in it
abbrev pub block_at : List (List ℕ) → ℕ → List ℕ
block_at blocks b = slice_index_or blocks b []
