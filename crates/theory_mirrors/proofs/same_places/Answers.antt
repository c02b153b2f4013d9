-- The law is its lemma.
use Rattle.theory_mirrors.proofs.SamePlaces.{have_same_places}
use Rattle.theory_mirrors.proofs.same_places.Goals as goal

-- the law
pub returns : goal.returns
returns c = have_same_places
