use Rattle.std.proofs.Common.{Ok, Err, Some, None, rules}
use Rattle.sb_lex.specs.Tokens.{IsTokenAnswer}
use Rattle.sb_lex.proofs.OneAnswer.{answer_pins}
use Rattle.sb_lex.proofs.lexer.Lexer.next.Goals as goal

pub returns-clause-token : goal.returns-clause-token
returns-clause-token c =
    let holds : IsTokenAnswer c.args.self.now c.answer_from-answer.result = search rules in
    λ t. answer_pins c.args.self.now c.answer_from-answer.result (Ok (Some t)) holds

pub returns-clause-none : goal.returns-clause-none
returns-clause-none c =
    let holds : IsTokenAnswer c.args.self.now c.answer_from-answer.result = search rules in
    answer_pins c.args.self.now c.answer_from-answer.result (Ok None) holds

pub returns-clause-bad : goal.returns-clause-bad
returns-clause-bad c =
    let holds : IsTokenAnswer c.args.self.now c.answer_from-answer.result = search rules in
    λ place. answer_pins c.args.self.now c.answer_from-answer.result (Err (record { 0 = place }))
    holds
