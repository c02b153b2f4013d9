-- What an input in memory has: the bytes under its path, and those that are left to read.
use Rattle.std.specs.Prelude.{ℕ, List, [], drop, if◌then◌else◌}
use Rattle.std.specs.Str.{bytes_eq}
use Rattle.sb_shelf.specs.declared.input.Input.{Input}

-- the bytes under a path: a path that is not held has none
abbrev pub told_under : Input → List ℕ → List ℕ
told_under i path = if bytes_eq path i.path then i.bytes else []

-- the bytes that are left to read
abbrev pub left_of : Input → List ℕ
left_of i = drop i.taken i.bytes
