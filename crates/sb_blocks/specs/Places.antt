-- Places in a list in blocks, and where they are in the flat list: the blocks joined.

use Rattle.std.specs.Prelude.{ℕ, zero, suc, ◌+◌, ◌<◌, ◌≤◌, List, length, take, slice_get, Option}
use Rattle.std.specs.Prelude.{None}
use Rattle.std.specs.List.{concat}
use Rattle.sb_blocks.specs.declared.place.Place.{Place}
use Rattle.sb_blocks.specs.Blocks.{block_at}

-- how many items of the flat list stand before the place
abbrev pub rank_of : List (List ℕ) → Place → ℕ
rank_of blocks place = length (concat (take place.block blocks)) + place.at

-- it is before an item or behind the last one of a block, or behind all blocks
abbrev pub IsPlace : List (List ℕ) → Place → Type 0
IsPlace blocks place = place.at ≤ length (block_at blocks place.block)

-- an item stands there
abbrev pub IsItemPlace : List (List ℕ) → Place → Type 0
IsItemPlace blocks place = place.at < length (block_at blocks place.block)

-- the item before place n of a list
abbrev pub item_before : List ℕ → ℕ → Option ℕ
item_before items zero = None
item_before items (suc n) = slice_get items n
