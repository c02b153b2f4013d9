-- The law is its lemma.
use Rattle.theory_mirrors.proofs.ReversedWalks.{has_reversed_walks}
use Rattle.theory_mirrors.proofs.walks_back.Goals as goal

-- the law
pub returns : goal.returns
returns c = has_reversed_walks
