use Rattle.theory_shifts.proofs.NormalMoves.{normal-moved}
use Rattle.theory_shifts.proofs.PlansMove.{flat-moved, knotted-moved, plan-moved, still_plan}
use Rattle.theory_shifts.proofs.laws.moved_loops.Goals as goal

pub returns-clause-normal : goal.returns-clause-normal
returns-clause-normal c = normal-moved

pub returns-clause-flat : goal.returns-clause-flat
returns-clause-flat c = flat-moved

pub returns-clause-knotted : goal.returns-clause-knotted
returns-clause-knotted c = knotted-moved

pub returns-clause-plan : goal.returns-clause-plan
returns-clause-plan c = plan-moved

pub returns-clause-still : goal.returns-clause-still
returns-clause-still c = still_plan
