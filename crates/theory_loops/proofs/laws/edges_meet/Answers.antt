-- The laws are their lemmas.
use Rattle.theory_loops.proofs.TouchingHavePoint.{touch_is}
use Rattle.theory_loops.proofs.ApartInWords.{apart_is}
use Rattle.theory_loops.proofs.laws.edges_meet.Goals as goal

-- touching
pub returns-clause-touch : goal.returns-clause-touch
returns-clause-touch g e f = touch_is e f

-- apart
pub returns-clause-apart : goal.returns-clause-apart
returns-clause-apart g loops = apart_is loops
