-- The laws are their lemmas.
use Rattle.theory_loops.proofs.DropPoint.{struck-drop, crossed-drop}
use Rattle.theory_loops.proofs.OuterIsCovered.{outer_is_covered}
use Rattle.theory_loops.proofs.laws.drop_point.Goals as goal

-- any ray
pub returns-clause-struck : goal.returns-clause-struck
returns-clause-struck g r p a b c level = struck-drop r p a b c level

-- the ray to the right
pub returns-clause-crossed : goal.returns-clause-crossed
returns-clause-crossed g p a b c level = crossed-drop p a b c level

-- no other point
pub returns-clause-covered : goal.returns-clause-covered
returns-clause-covered g p a b c level off_first off_second =
    outer_is_covered p a b c level off_first off_second
