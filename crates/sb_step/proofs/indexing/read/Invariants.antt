use Rattle.sb_step.proofs.Names.{◌≡◌, ◌-◌, length, state_of, Progress}
use Rattle.sb_step.proofs.indexing.read.Given as goal

abbrev pub invariant-tokens : goal.invariant-tokens
invariant-tokens l = record {
  input_is : l.lexer.input ≡ l.bytes;
  progress : Progress l.bytes l.lexer.place (state_of l.machine) l.collected;
}

abbrev pub decreases-tokens : goal.decreases-tokens
decreases-tokens l = length l.bytes - l.lexer.place
