-- Answers that are not want of memory, and loops turned by their senses.

use Rattle.std.specs.Prelude.{◌≡◌, Result, Err, Bool, List, [], ◌∷◌, if◌then◌else◌}
use Rattle.sb_fraction.specs.declared.point.Point.{Point}
use Rattle.theory_parity.specs.Sides.{turned_loop}
use Rattle.sb_loops.specs.declared.error.LoopError.{LoopError}
use Rattle.sb_loops.specs.declared.error.LoopError.TheVariants.{NoMemory}

-- there was memory
abbrev pub IsInTime : Result (List (List Point)) LoopError → Type 0
IsInTime answer = answer ≡ Err NoMemory → ⊥

-- each loop whose sense is false turned round
abbrev pub turned_by : List Bool → List (List Point) → List (List Point)
turned_by [] loops = []
turned_by (left ∷ senses) [] = []
turned_by (left ∷ senses) (points ∷ loops) =
    (if left then points else turned_loop points) ∷ turned_by senses loops
