use Rattle.std.proofs.Common.{◌≡◌, true, take}
use Rattle.std.specs.List.{list_all}
use Rattle.sb_prism.specs.Faults.{is_segment}
use Rattle.sb_prism.proofs.sections.indices.are_segments.Given as goal

abbrev pub invariant-loop-segment : goal.invariant-loop-segment
invariant-loop-segment l = list_all (is_segment l.count) (take l.segment-index l.segments) ≡ true
