-- The laws are their lemmas.
use Rattle.theory_loops.proofs.SamePlan.{same_parity, no_other_edge, same_inside}
use Rattle.theory_loops.proofs.laws.same_plan.Goals as goal

-- the parity
pub returns-clause-parity : goal.returns-clause-parity
returns-clause-parity g loops p = same_parity loops p

-- the edges
pub returns-clause-no_other_edge : goal.returns-clause-no_other_edge
returns-clause-no_other_edge g loops p off = no_other_edge loops p off

-- inside
pub returns-clause-inside : goal.returns-clause-inside
returns-clause-inside g loops p off = same_inside loops p off
