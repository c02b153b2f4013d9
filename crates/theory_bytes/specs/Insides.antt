-- What stands in a text between its first byte and its last.
use Rattle.std.specs.Prelude.{ℕ, ◌-◌, List, length, slice_range}

-- the text without its first byte and its last
abbrev pub inside_of : List ℕ → List ℕ
inside_of text = slice_range text 1 (length text - 1)
