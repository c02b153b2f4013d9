-- The law is its lemma.
use Rattle.theory_gaps.proofs.Gaps.ThroughGaps.{has_walk_up_and_down}
use Rattle.theory_gaps.proofs.walk_up_and_down.Goals as goal

-- the law
pub returns : goal.returns
returns c = has_walk_up_and_down
