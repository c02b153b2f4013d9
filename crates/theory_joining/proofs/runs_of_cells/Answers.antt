-- The laws are their lemmas, at the type of the marks.
use Rattle.theory_joining.proofs.RunsOfCells.{has_runs_of_cells}
use Rattle.theory_joining.proofs.RunsMerge.{has_merge}
use Rattle.theory_joining.proofs.runs_of_cells.Goals as goal

-- the runs of the cells
pub returns-clause-runs : goal.returns-clause-runs
returns-clause-runs g c = has_runs_of_cells _

-- the runs of two stretches
pub returns-clause-merged : goal.returns-clause-merged
returns-clause-merged g c = has_merge _
