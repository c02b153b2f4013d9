-- The spaces before the place are counted.
use Rattle.std.proofs.Common.{length}
use Rattle.sb_run.proofs.SpacesEndWhereTheyChange.{IsCountedSoFar}
use Rattle.sb_run.proofs.messages.spaces_in.Given as goal

abbrev pub invariant-turns : goal.invariant-turns
invariant-turns l = IsCountedSoFar l.fn.boundaries l.spaces l.rest

abbrev pub decreases-turns : goal.decreases-turns
decreases-turns l = length l.rest
