-- The first that passes is one of the spaces that are left.
use Rattle.std.proofs.Common.{◌≡◌, length}
use Rattle.std.specs.List.{find}
use Rattle.sb_walk.specs.Shared.{share_over}
use Rattle.sb_walk.proofs.pairs.first_with.Given as goal

abbrev pub invariant-others : goal.invariant-others
invariant-others l =
    find (share_over l.edges.edges l.order l.first) l.rest
    ≡ find (share_over l.edges.edges l.order l.first) l.others

abbrev pub decreases-others : goal.decreases-others
decreases-others l = length l.rest
