use Rattle.std.proofs.Common.{sym}
use Rattle.sb_step.specs.Lexemes.{lexeme_at}
use Rattle.sb_step.proofs.Cursors.ParametersArePassed.{keyword_has_next, keyword_opens, list_opens, value_opens}
use Rattle.sb_step.proofs.passing.opened.Goals as goal

pub next-opens-requires : goal.next-opens-requires
next-opens-requires c =
    keyword_has_next c.args.lexer.now (lexeme_at c.args.lexer.now.input c.args.first)
    (sym c.if-is_keyword.ensures) c.requires

pub returns-then-is_keyword-clause-opens : goal.returns-then-is_keyword-clause-opens
returns-then-is_keyword-clause-opens c =
    keyword_opens c.args.lexer.now (lexeme_at c.args.lexer.now.input c.args.first)
    c.next-opens.new.lexer c.next-opens.result c.next-opens.ensures (sym c.if-is_keyword.ensures)

pub returns-then-is_open-clause-opens : goal.returns-then-is_open-clause-opens
returns-then-is_open-clause-opens c =
    list_opens c.args.lexer.now (lexeme_at c.args.lexer.now.input c.args.first)
    (sym c.if-is_open.ensures)

pub returns-else-is_open-clause-opens : goal.returns-else-is_open-clause-opens
returns-else-is_open-clause-opens c =
    value_opens c.args.lexer.now (lexeme_at c.args.lexer.now.input c.args.first)
    (sym c.if-is_keyword.ensures) (sym c.if-is_open.ensures)
