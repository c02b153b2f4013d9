use Rattle.sb_step.proofs.Cursors.CursorsBegin.{inside_has_next, inside_left}
use Rattle.sb_step.proofs.cursor.inside.Goals as goal

pub next-first-requires : goal.next-first-requires
next-first-requires c =
    inside_has_next c.args.bytes.now c.args.parenthesis c.at-lexer.result c.at-lexer.ensures
    c.requires.list.0 c.requires.list.1

pub standing_at-requires : goal.standing_at-requires
standing_at-requires c = (
  c.requires.list.0,
  inside_left c.args.bytes.now c.args.parenthesis c.at-lexer.result c.at-lexer.ensures
      c.requires.list.0 c.requires.list.1 c.next-first.new.lexer c.next-first.result
      c.next-first.ensures c.unless_closed.result c.unless_closed.ensures,
)

pub returns : goal.returns
returns c = λ ps l.
    c.standing_at.ensures ps
    (inside_left c.args.bytes.now c.args.parenthesis c.at-lexer.result c.at-lexer.ensures ps l
    c.next-first.new.lexer c.next-first.result c.next-first.ensures c.unless_closed.result
    c.unless_closed.ensures)
