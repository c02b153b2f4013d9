-- The least pair is one of the spaces that are left.
use Rattle.std.proofs.Common.{◌≡◌, length}
use Rattle.sb_walk.specs.Shared.{least_pair}
use Rattle.sb_walk.proofs.pairs.least_of.Given as goal

abbrev pub invariant-spaces : goal.invariant-spaces
invariant-spaces l =
    least_pair l.edges.edges l.order l.rest ≡ least_pair l.edges.edges l.order l.spaces

abbrev pub decreases-spaces : goal.decreases-spaces
decreases-spaces l = length l.rest
