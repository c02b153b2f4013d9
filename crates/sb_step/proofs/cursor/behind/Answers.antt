use Rattle.std.proofs.Common.{drop, sym, subst}
use Rattle.sb_step.specs.Lexemes.{lexeme_at}
use Rattle.sb_step.specs.Params.Parameters.{IsParameter}
use Rattle.sb_step.specs.Params.Readers.{Awaits, Behind}
use Rattle.sb_step.proofs.Cursors.ParametersArePassed.{first_awaited, passed_from, further_awaited, others_left}
use Rattle.sb_step.proofs.cursor.behind.Goals as goal

pub pass-requires : goal.pass-requires
pass-requires c =
    subst (λ r. Awaits (Behind (lexeme_at r.input c.args.first) IsParameter) r)
    (sym c.at-lexer.ensures)
    (first_awaited c.args.bytes.now c.args.first c.requires.0 c.requires.1)

pub following-next-requires : goal.following-next-requires
following-next-requires c =
    further_awaited c.args.bytes.now c.args.first c.pass.new.lexer
    (passed_from c.args.bytes.now c.args.first c.at-lexer.result c.pass.new.lexer
    c.at-lexer.ensures c.pass.ensures)
    c.requires.0 c.requires.1

pub standing_at-requires : goal.standing_at-requires
standing_at-requires c = (
  drop 1 c.requires.0,
  others_left c.args.bytes.now c.args.first c.pass.new.lexer
      (passed_from c.args.bytes.now c.args.first c.at-lexer.result c.pass.new.lexer
      c.at-lexer.ensures c.pass.ensures)
      c.following-next.result c.following-next.ensures c.requires.0 c.requires.1,
)

pub returns : goal.returns
returns c = λ ps stands.
    c.standing_at.ensures (drop 1 ps)
    (others_left c.args.bytes.now c.args.first c.pass.new.lexer
    (passed_from c.args.bytes.now c.args.first c.at-lexer.result c.pass.new.lexer
    c.at-lexer.ensures c.pass.ensures)
    c.following-next.result c.following-next.ensures ps stands)
