-- The state that a machine is in.
use Rattle.sb_step.specs.declared.indexing.machine.Machine.{Machine}
use Rattle.sb_step.specs.Index.Turns.{State}

-- its fields, as the proofs have them
abbrev pub state_of : Machine → State
state_of m = record { section = m.section; nest = record { brackets = m.brackets; want = m.want } }
