-- The laws are their lemmas.
use Rattle.theory_sweep.proofs.ApartWhenPassed.{none_at_first}
use Rattle.theory_sweep.proofs.EdgesAtACorner.{refused_are_knotted}
use Rattle.theory_sweep.proofs.OverACorner.{open_then}
use Rattle.theory_sweep.proofs.laws.from_corner_to_corner.Goals as goal

-- before the first corner
pub returns-clause-first : goal.returns-clause-first
returns-clause-first g d d_is loops k before = none_at_first d d_is loops k before

-- over the next one
pub returns-clause-step : goal.returns-clause-step
returns-clause-step g d d_is loops apart bent k es now c next front ending back parts new begun joint =
    open_then d d_is loops apart bent k es now c next front ending back parts new begun joint

-- neighbours that fail
pub returns-clause-knot : goal.returns-clause-knot
returns-clause-knot g d loops k e f e_is f_is fails =
    refused_are_knotted d loops k e f e_is f_is fails
