-- The laws are their lemmas.
use Rattle.theory_parity.proofs.SolidOnTheLeft.OneSideALoop.{one_side_a_loop}
use Rattle.theory_parity.proofs.SolidOnTheLeft.TurnedIsPlan.{put_left_is_plan}
use Rattle.theory_parity.proofs.SolidOnTheLeft.TurnedLoops.{kept_by_first, edges_of_turned, others_as_before, turned_among}
use Rattle.theory_parity.proofs.SolidOnTheLeft.TurnedLoops.{put_left_keeps_left, put_left_once}
use Rattle.theory_parity.proofs.sides.one_side_a_loop.Goals as goal

-- all edges of a loop or none
pub returns-clause-one_side : goal.returns-clause-one_side
returns-clause-one_side g loops are points stands e f e_in f_in =
    one_side_a_loop loops are points stands e f e_in f_in

-- the edges of a loop turned round
pub returns-clause-turned_edges : goal.returns-clause-turned_edges
returns-clause-turned_edges g points e = edges_of_turned points e

-- those of the others
pub returns-clause-others : goal.returns-clause-others
returns-clause-others g before points after e = others_as_before before points after e

-- the opposite answer
pub returns-clause-turned : goal.returns-clause-turned
returns-clause-turned g before points after are e stands =
    turned_among before points after are e stands

-- one edge a loop
pub returns-clause-one_edge : goal.returns-clause-one_edge
returns-clause-one_edge g loops are = kept_by_first loops are

-- put on the left
pub returns-clause-put_left : goal.returns-clause-put_left
returns-clause-put_left g loops are = put_left_keeps_left loops are

-- a plan
pub returns-clause-plan : goal.returns-clause-plan
returns-clause-plan g loops loops_are apart = put_left_is_plan loops loops_are apart

-- once
pub returns-clause-once : goal.returns-clause-once
returns-clause-once g loops left = put_left_once loops left
