-- The law is its lemma, at the type of the labels.
use Rattle.theory_cuttings.proofs.NeedlessBreaks.{is_reduced_by_squash}
use Rattle.theory_cuttings.proofs.squash.Goals as goal

-- squash
pub returns : goal.returns
returns g c = is_reduced_by_squash _
