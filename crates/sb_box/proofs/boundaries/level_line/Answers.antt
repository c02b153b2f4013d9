-- The line runs along x.
use Rattle.sb_box.proofs.BoxPatchesArePatches.{east_is_direction}
use Rattle.sb_box.proofs.boundaries.level_line.Goals as goal

pub invariant_of-east : goal.invariant_of-east
invariant_of-east c = record { is_direction = east_is_direction }
