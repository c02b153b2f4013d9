-- The laws are their lemmas.
use Rattle.theory_gaps.proofs.Gaps.OverlapInGaps.{has_real_gaps, has_overlap_in_gaps}
use Rattle.theory_gaps.proofs.gaps_between_lines.Goals as goal

-- points in a gap
pub returns-clause-points : goal.returns-clause-points
returns-clause-points c = has_real_gaps

-- overlap
pub returns-clause-overlap : goal.returns-clause-overlap
returns-clause-overlap c = has_overlap_in_gaps
