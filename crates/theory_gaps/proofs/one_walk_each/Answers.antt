-- The laws are their lemmas.
use Rattle.theory_gaps.proofs.OneWalkEach.{have_one_passages, has_one_walk}
use Rattle.theory_gaps.proofs.one_walk_each.Goals as goal

-- one list of passages
pub returns-clause-passages : goal.returns-clause-passages
returns-clause-passages c = have_one_passages

-- one walk
pub returns-clause-walk : goal.returns-clause-walk
returns-clause-walk c = has_one_walk
