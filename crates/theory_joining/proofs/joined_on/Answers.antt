-- The laws are their lemmas, at the type of the marks.
use Rattle.theory_joining.proofs.JoinedOn.{has_step, has_step_in_any_order}
use Rattle.theory_joining.proofs.joined_on.Goals as goal

-- the step
pub returns-clause-step : goal.returns-clause-step
returns-clause-step g c = has_step _

-- in any order
pub returns-clause-in_any_order : goal.returns-clause-in_any_order
returns-clause-in_any_order g c = has_step_in_any_order _
