-- So many parentheses are open now; the bytes that are left become fewer.
use Rattle.std.proofs.Common.{◌-◌, length}
use Rattle.sb_step.proofs.Cursors.ParametersArePassed.{ClosesOn}
use Rattle.sb_step.proofs.passing.close.Given as goal

abbrev pub invariant-tokens : goal.invariant-tokens
invariant-tokens l = ClosesOn l.fn.lexer l.lexer l.fn.first_depth l.depth

abbrev pub decreases-tokens : goal.decreases-tokens
decreases-tokens l = length l.initial.lexer.input - l.lexer.place
