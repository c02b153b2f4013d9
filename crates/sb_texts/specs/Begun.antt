-- What stands in a text to which only a part of something could be appended.
use Rattle.std.specs.Prelude.{◌≡◌, ℕ, List, length, take}

-- the text begins with this front: `wall` begins with `wa`, and with nothing
abbrev pub BeginsWith : List ℕ → List ℕ → Type 0
BeginsWith text front = take (length front) text ≡ front
