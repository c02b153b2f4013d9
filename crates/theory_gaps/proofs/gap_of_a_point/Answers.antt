-- The laws are their lemmas.
use Rattle.theory_gaps.proofs.Gaps.GapsOfPoints.{has_gap_each, has_presence, has_presence_from_behind}
use Rattle.theory_gaps.proofs.Gaps.GapsOfPoints.{has_one_own_edge}
use Rattle.theory_gaps.proofs.gap_of_a_point.Goals as goal

-- each point lies in a gap
pub returns-clause-gap : goal.returns-clause-gap
returns-clause-gap c = has_gap_each

-- presence is being inside
pub returns-clause-present : goal.returns-clause-present
returns-clause-present c = has_presence

-- counted from behind too
pub returns-clause-from_behind : goal.returns-clause-from_behind
returns-clause-from_behind c = has_presence_from_behind

-- one own edge
pub returns-clause-one_edge : goal.returns-clause-one_edge
returns-clause-one_edge c = has_one_own_edge
