use Rattle.sb_step.proofs.Names.{AreUnlike}
use Rattle.sb_step.proofs.step_file.table.least_doubled.Given as goal

abbrev pub invariant-rows : goal.invariant-rows
invariant-rows l = AreUnlike l.at l.rows
