-- What a joiner has taken.

use Rattle.std.specs.Prelude.{◌≡◌, List}
use Rattle.sb_model.specs.declared.boundary.Cell.{Cell}
use Rattle.theory_faces.specs.Strips.{Strip, runs_of_calls}

-- the joiner has taken the cells of these calls, and keeps the runs of each
abbrev pub HasTaken : List (List Cell) → List Strip → Type 0
HasTaken calls joiner = joiner ≡ runs_of_calls calls
