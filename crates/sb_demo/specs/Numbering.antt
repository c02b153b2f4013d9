-- How many rooms there may be, and which numbers the instances have.
use Rattle.std.specs.Prelude.{ℕ, ◌+◌, ◌*◌, List}
use Rattle.sb_texts.specs.Numerals.{padded_decimal}

-- the most rooms in a row
abbrev pub most_rooms : ℕ
most_rooms = 40

-- the number of the first instance of block 0, and how far apart those of neighbouring blocks are
abbrev pub first_block : ℕ
first_block = 101

abbrev pub block_step : ℕ
block_step = 10

-- the number of the first instance of the block at this place, counted from 0
abbrev pub block_number : ℕ → ℕ
block_number place = first_block + block_step * place

-- the number of its product, which is its last instance: 109 at place 0
abbrev pub product_number : ℕ → ℕ
product_number place = block_number place + 8

-- the number of the first window
abbrev pub first_window : ℕ
first_window = 10001

-- the number of the first relation by which an opening voids the wall
abbrev pub first_void : ℕ
first_void = 20001

-- the number of the first relation by which a window fills an opening
abbrev pub first_filling : ℕ
first_filling = 30001

-- the number of the first relation to a material
abbrev pub first_association : ℕ
first_association = 40001

-- how many digits a GlobalId has
abbrev pub global_id_width : ℕ
global_id_width = 22

-- the digits of an instance's GlobalId are those of its number: `0000000000000000000109`
abbrev pub global_id : ℕ → List ℕ
global_id number = padded_decimal global_id_width number
