-- The crossings that were found and those of edges that are left are all.
use Rattle.std.proofs.Common.{length}
use Rattle.sb_frame.proofs.Meetings.StepsOfFinding.{FoundSoFar}
use Rattle.sb_frame.proofs.finding.crossings_by_left.Given as goal

abbrev pub invariant-edges : goal.invariant-edges
invariant-edges l = FoundSoFar l.edges l.rest l.found.items

abbrev pub decreases-edges : goal.decreases-edges
decreases-edges l = length l.rest
