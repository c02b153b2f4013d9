use Rattle.sb_step.proofs.Names.{◌≡◌, take, numbered_from}
use Rattle.sb_step.proofs.step_file.table.numbered.Given as goal

abbrev pub invariant-numbers : goal.invariant-numbers
invariant-numbers l = l.rows.items ≡ numbered_from 0 (take l.at l.numbers)
