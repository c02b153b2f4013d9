-- The crossings that were added and those with edges that are left are all.
use Rattle.std.proofs.Common.{drop}
use Rattle.sb_fraction.specs.Edges.{edge_of}
use Rattle.sb_frame.proofs.Meetings.StepsOfFinding.{AddedSoFar}
use Rattle.sb_frame.proofs.finding.add_crossings.Given as goal

abbrev pub invariant-others : goal.invariant-others
invariant-others l =
    AddedSoFar (edge_of l.first.segment) l.others (drop l.other-index l.others) l.initial.found.items
    l.found.items
