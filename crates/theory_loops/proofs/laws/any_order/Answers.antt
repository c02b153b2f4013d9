-- The laws are their lemmas.
use Rattle.std.proofs.Common.{inr}
use Rattle.theory_loops.proofs.Orders.AnyOrder.{becomes_normal, any_order}
use Rattle.theory_loops.proofs.Orders.LeftInAnyOrder.{left_is_normal, few_are_few}
use Rattle.theory_loops.proofs.Orders.ApartFromAny.{apart_from_any}
use Rattle.theory_loops.proofs.laws.any_order.Goals as goal

-- it comes
pub returns-clause-normal : goal.returns-clause-normal
returns-clause-normal g points = becomes_normal points

-- no other does
pub returns-clause-one : goal.returns-clause-one
returns-clause-one g points left to_left bent = any_order points left to_left (inr bent)

-- from the least point on
pub returns-clause-least : goal.returns-clause-least
returns-clause-least g points left to_left bent least =
    left_is_normal points left to_left bent least

-- few
pub returns-clause-few : goal.returns-clause-few
returns-clause-few g points left to_left few = few_are_few points left to_left few

-- the edges
pub returns-clause-apart : goal.returns-clause-apart
returns-clause-apart g loops others same = apart_from_any loops others same
