-- The law is its lemma, at the type of the marks.
use Rattle.theory_joining.proofs.JoinOfSlabs.{has_join}
use Rattle.theory_joining.proofs.join_of_slabs.Goals as goal

-- the join
pub returns : goal.returns
returns g c = record { join = has_join _ }
