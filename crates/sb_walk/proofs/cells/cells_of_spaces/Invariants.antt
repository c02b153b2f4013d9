-- With the cells of the numbers that are left they are the cells of all.
use Rattle.std.proofs.Common.{◌++◌, List, length}
use Rattle.sb_model.specs.declared.boundary.Cell.{Cell}
use Rattle.sb_walk.specs.CellsOfGaps.{AreForEach}
use Rattle.sb_walk.specs.Strips.{are_made}
use Rattle.sb_walk.proofs.cells.cells_of_spaces.Given as goal

abbrev pub invariant-numbers : goal.invariant-numbers
invariant-numbers l =
    (cells : List Cell)
    → AreForEach l.model (are_made l.model l.strip l.present l.down l.up) l.rest cells
    → AreForEach l.model (are_made l.model l.strip l.present l.down l.up) l.present (l.list.items ++ cells)

abbrev pub decreases-numbers : goal.decreases-numbers
decreases-numbers l = length l.rest
