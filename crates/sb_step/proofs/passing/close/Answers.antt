use Rattle.sb_step.proofs.Cursors.ParametersArePassed.{closes_has_next, closes_go_on, closes_end}
use Rattle.sb_step.proofs.passing.close.Goals as goal

pub next-token-requires : goal.next-token-requires
next-token-requires c =
    closes_has_next c.args.lexer.now c.tokens.lexer c.args.first_depth c.tokens.depth
    c.tokens.invariant c.tokens-test.true c.requires.awaits

pub tokens-preserved : goal.tokens-preserved
tokens-preserved c =
    closes_go_on c.args.lexer.now c.tokens.lexer c.next-token.new.lexer c.next-token.result
    c.next-token.ensures c.args.first_depth c.tokens.depth c.depth_behind-depth.result
    c.tokens.invariant c.tokens-test.true c.depth_behind-depth.ensures

pub returns : goal.returns
returns c =
    closes_end c.args.lexer.now c.tokens.lexer c.args.first_depth c.tokens.depth
    c.tokens.invariant c.tokens-test.false
