-- Those behind are some of the positions that are left.
use Rattle.std.proofs.Common.{◌≡◌, length}
use Rattle.sb_walk.specs.WalksInGaps.{positions_after}
use Rattle.sb_walk.proofs.levels.after.Given as goal

abbrev pub invariant-positions : goal.invariant-positions
invariant-positions l = positions_after l.from l.rest ≡ positions_after l.from l.positions

abbrev pub decreases-positions : goal.decreases-positions
decreases-positions l = length l.rest
