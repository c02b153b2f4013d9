-- The boxes of a row of rooms: two slabs, walls round the rooms and between them, the rooms, and an
-- opening in the near wall of each.
--
-- A room is 4,000 mm wide, 3,000 mm deep and 2,500 mm high. Walls and slabs are 200 mm thick, so a
-- room begins every 4,200 mm. The row goes along x from the inner corner of the first room.
use Rattle.std.specs.Prelude.{ℕ, ℤ, pos, neg_ℤ, ◌+◌, ◌*◌, ◌-ℤ◌, ◌++◌, List, [], ◌∷◌, map}
use Rattle.std.specs.List.{range_with_len}
use Rattle.sb_demo.specs.declared.blocks.Block.{Block}
use Rattle.sb_demo.specs.declared.blocks.Class.{Class}
use Rattle.sb_demo.specs.declared.blocks.Class.TheVariants.{Slab, Wall, Space, Opening}

-- a row of the table: the block's place, its class, its centre in plan, its sizes in plan, its base
-- and its height, in millimetres
abbrev pub block : ℕ → Class → ℤ → ℤ → ℤ → ℤ → ℤ → ℤ → Block
block place class x y size_x size_y base height = record {
  place = place;
  class = class;
  x = x;
  y = y;
  size_x = size_x;
  size_y = size_y;
  base = base;
  height = height;
}

-- the middle of the whole row
abbrev pub middle : ℕ → ℤ
middle n = pos (2100 * n) -ℤ pos 100

-- the length of the whole row, with the walls at its ends
abbrev pub row_length : ℕ → ℤ
row_length n = pos (4200 * n + 200)

-- the middle of a room, counted from 0
abbrev pub room_middle : ℕ → ℤ
room_middle i = pos (4200 * i + 2000)

abbrev pub lower_slab : ℕ → Block
lower_slab n =
    block 0 Slab (middle n) (pos 1500) (row_length n) (pos 3400) (neg_ℤ (pos 200)) (pos 200)

abbrev pub upper_slab : ℕ → Block
upper_slab n = block 1 Slab (middle n) (pos 1500) (row_length n) (pos 3400) (pos 2500) (pos 200)

-- the wall that has the openings
abbrev pub near_wall : ℕ → Block
near_wall n =
    block 2 Wall (middle n) (neg_ℤ (pos 100)) (row_length n) (pos 200) (pos 0) (pos 2500)

abbrev pub far_wall : ℕ → Block
far_wall n = block 3 Wall (middle n) (pos 3100) (row_length n) (pos 200) (pos 0) (pos 2500)

-- the walls at the ends and between rooms, from 0 to n
abbrev pub cross_wall : ℕ → Block
cross_wall j =
    block (4 + j) Wall (pos (4200 * j) -ℤ pos 100) (pos 1500) (pos 200) (pos 3000) (pos 0)
    (pos 2500)

abbrev pub room : ℕ → ℕ → Block
room n i =
    block (5 + n + i) Space (room_middle i) (pos 1500) (pos 4000) (pos 3000) (pos 0) (pos 2500)

-- the opening of a room goes through the near wall and 100 mm beyond it on both sides
abbrev pub opening : ℕ → ℕ → Block
opening n i =
    block (5 + 2 * n + i) Opening (room_middle i) (neg_ℤ (pos 100)) (pos 2000) (pos 400) (pos 900)
    (pos 1200)

-- all blocks of a row of n rooms, in order of their places
unfoldable pub blocks : ℕ → List Block
blocks n =
    (lower_slab n ∷ upper_slab n ∷ near_wall n ∷ far_wall n ∷ [])
    ++ map cross_wall (range_with_len 0 (n + 1))
    ++ map (room n) (range_with_len 0 n)
    ++ map (opening n) (range_with_len 0 n)
