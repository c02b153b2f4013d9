use Rattle.std.proofs.Common.{sym, subst}
use Rattle.sb_step.specs.Params.Parameters.{AreParameters}
use Rattle.sb_step.specs.Params.Readers.{Awaits}
use Rattle.sb_step.proofs.ParameterLists.ListsAreRead.{list_has_next}
use Rattle.sb_step.proofs.ParameterLists.ParametersOfAnInstance.{behind_parenthesis}
use Rattle.sb_step.proofs.Cursors.CursorsBegin.{some_left, what_is_said}
use Rattle.sb_step.proofs.cursor.at_list.Goals as goal

pub next-first-requires : goal.next-first-requires
next-first-requires c =
    list_has_next c.next-opens.new.lexer
    (behind_parenthesis c.next-opens.ensures
    (subst (Awaits AreParameters) (sym c.at-lexer.ensures) c.requires.awaits))

pub standing_at-requires : goal.standing_at-requires
standing_at-requires c =
    some_left c.args.bytes.now c.args.place c.at-lexer.result c.next-opens.new.lexer
    c.next-first.new.lexer c.next-opens.result c.next-first.result c.next-opens.ensures
    c.next-first.ensures c.at-lexer.ensures c.unless_closed.result c.unless_closed.ensures
    c.requires.awaits

pub returns : goal.returns
returns c =
    what_is_said c.args.bytes.now c.args.place c.at-lexer.result c.next-opens.new.lexer
    c.next-first.new.lexer c.next-opens.result c.next-first.result c.next-opens.ensures
    c.next-first.ensures c.at-lexer.ensures c.unless_closed.result c.unless_closed.ensures
    c.standing_at.result c.standing_at.ensures
