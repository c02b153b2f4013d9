-- The laws are their lemmas.
use Rattle.theory_loops.proofs.NormalIsLoop.{normal_is_bent, normal_is_loop}
use Rattle.theory_loops.proofs.PlanComesOut.{plan_comes_out}
use Rattle.theory_loops.proofs.PlansStay.{plan_stays}
use Rattle.theory_loops.proofs.laws.plans_come_out.Goals as goal

-- bent
pub returns-clause-bent : goal.returns-clause-bent
returns-clause-bent g points many = normal_is_bent points many

-- a normalised loop
pub returns-clause-normal : goal.returns-clause-normal
returns-clause-normal g points in_range many other = normal_is_loop points in_range many other

-- a plan
pub returns-clause-plan : goal.returns-clause-plan
returns-clause-plan g loops in_range not_flat not_knotted =
    plan_comes_out loops in_range not_flat not_knotted

-- which stays
pub returns-clause-once : goal.returns-clause-once
returns-clause-once g loops is = plan_stays loops is
