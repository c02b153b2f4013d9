-- The positions so far and those of the numbers that are left are all.
use Rattle.std.proofs.Common.{◌≡◌, ◌∷◌, ◌++◌, length}
use Rattle.sb_walk.specs.Ways.{normal_of}
use Rattle.sb_walk.specs.Behind.{ends_of}
use Rattle.sb_walk.proofs.heights.all_positions.Given as goal

abbrev pub invariant-numbers : goal.invariant-numbers
invariant-numbers l =
    l.list.items ++ ends_of l.model (normal_of l.way) l.rest
    ≡ l.ground ∷ ends_of l.model (normal_of l.way) l.present

abbrev pub decreases-numbers : goal.decreases-numbers
decreases-numbers l = length l.rest
