use Rattle.std.proofs.Common.{[], ◌∷◌, ◌∙◌}
use Rattle.sb_step.proofs.Cursors.TypedByToken.{parenthesis_next, argument_behind}
use Rattle.sb_step.proofs.forms.argument.Goals as goal

pub next-opens-requires : goal.next-opens-requires
next-opens-requires c =
    parenthesis_next c.args.bytes.now c.args.keyword c.at-lexer.result c.at-lexer.ensures
    c.requires.stands.0 c.requires.stands.1 c.requires.keyword

pub inside-requires-clause-list : goal.inside-requires-clause-list
inside-requires-clause-list c =
    let a = argument_behind c.args.bytes.now c.args.keyword c.at-lexer.result c.at-lexer.ensures
    c.requires.stands.0 c.requires.stands.1 c.requires.keyword c.next-opens.new.lexer
    c.next-opens.result c.next-opens.ensures in
    (a.0 ∷ [], a.2)

pub returns : goal.returns
returns c = λ ps stands.
    let a = argument_behind c.args.bytes.now c.args.keyword c.at-lexer.result c.at-lexer.ensures
    ps stands c.requires.keyword c.next-opens.new.lexer c.next-opens.result
    c.next-opens.ensures in
    (a.1.0, a.1.1, c.inside.ensures (a.0 ∷ []) a.2 ∙ a.1.2)
