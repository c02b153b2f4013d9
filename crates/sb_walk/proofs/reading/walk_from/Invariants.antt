-- What is read from here on, behind the items so far, is the walk.
use Rattle.std.proofs.Common.{◌≡◌, length}
use Rattle.theory_sight.specs.Reading.{read, behind}
use Rattle.sb_walk.specs.Ways.{normal_of}
use Rattle.sb_walk.specs.Behind.{read_on, stretches_on}
use Rattle.sb_walk.proofs.reading.walk_from.Given as goal

abbrev pub invariant-positions : goal.invariant-positions
invariant-positions l =
    behind l.items
    (read l.model (normal_of l.way) l.from l.at
    (stretches_on l.model (normal_of l.way) l.present l.label l.rest))
    ≡ read_on l.model (normal_of l.way) l.present l.from l.positions

abbrev pub decreases-positions : goal.decreases-positions
decreases-positions l = length l.rest
