use Rattle.std.proofs.Common.{sym}
use Rattle.sb_step.proofs.ParameterLists.ParametersAreRead.{comma_has_next}
use Rattle.sb_step.proofs.Cursors.ParametersArePassed.{further_left}
use Rattle.sb_step.proofs.passing.following.Goals as goal

pub next-requires : goal.next-requires
next-requires c =
    comma_has_next c.next-mark.ensures (sym c.if-is_comma.ensures) c.requires

pub returns-then-is_comma : goal.returns-then-is_comma
returns-then-is_comma c = λ ps xs rest ahead further.
    further_left c.args.lexer.now c.next-mark.new.lexer c.next-mark.result c.next-mark.ensures
    c.next.new.lexer c.next.result c.next.ensures (sym c.if-is_comma.ensures) further ahead
