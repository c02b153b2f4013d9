-- The first is one of the numbers that are left.
use Rattle.std.proofs.Common.{◌≡◌, length}
use Rattle.sb_walk.specs.Ways.{normal_of}
use Rattle.sb_walk.specs.Behind.{space_on}
use Rattle.sb_walk.proofs.behind.space_behind.Given as goal

abbrev pub invariant-numbers : goal.invariant-numbers
invariant-numbers l =
    space_on l.model (normal_of l.way) l.rest l.z ≡ space_on l.model (normal_of l.way) l.present l.z

abbrev pub decreases-numbers : goal.decreases-numbers
decreases-numbers l = length l.rest
