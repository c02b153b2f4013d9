-- The law is its lemma, at the type of the labels.
use Rattle.theory_cuttings.proofs.OneCutting.{has_one_cutting}
use Rattle.theory_cuttings.proofs.one_cutting.Goals as goal

-- one cutting
pub returns : goal.returns
returns g c = has_one_cutting _
