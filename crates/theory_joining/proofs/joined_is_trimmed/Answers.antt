-- The laws are their lemmas, at the type of the marks.
use Rattle.theory_joining.proofs.JoinedIsTrimmed.{has_trimmed_end}
use Rattle.theory_joining.proofs.JoinedIsOne.{has_one_join}
use Rattle.theory_joining.proofs.joined_is_trimmed.Goals as goal

-- trimmed
pub returns-clause-trimmed : goal.returns-clause-trimmed
returns-clause-trimmed g c = has_trimmed_end _

-- and one
pub returns-clause-one_list : goal.returns-clause-one_list
returns-clause-one_list g c = has_one_join _
