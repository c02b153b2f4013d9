-- The law is its lemma.
use Rattle.theory_gaps.proofs.WithinExtents.{within_extent}
use Rattle.theory_gaps.proofs.points_within_extents.Goals as goal

-- the law
pub returns : goal.returns
returns c s n p p_is inside some = within_extent s n p p_is inside some
