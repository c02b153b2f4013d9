-- The law is its lemma.
use Rattle.theory_gaps.proofs.OutwardFromSides.{has_walk_along_normal}
use Rattle.theory_gaps.proofs.walk_along_normal.Goals as goal

-- the law
pub returns : goal.returns
returns c = has_walk_along_normal
