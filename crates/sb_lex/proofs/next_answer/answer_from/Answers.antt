use Rattle.std.proofs.Common.{◌≡◌, ◌+◌, ◌-◌, Ok, Err, Some, None, length, take, drop, sym, ap, ◌∙◌, subst, eqb}
use Rattle.std.proofs.lemmas.Bool.{cond-false, ne_eqb}
use Rattle.std.proofs.lemmas.List.{take_rest}
use Rattle.sb_lex.specs.Tokens.{IsTokenAnswer}
use Rattle.sb_lex.specs.Scanning.{scan}
use Rattle.sb_lex.proofs.OneAnswer.{Stop, answer_holds}
use Rattle.sb_lex.proofs.OneListOfTokens.{Gap, stop_from_gap}
use Rattle.sb_lex.proofs.TokensHaveBytes.{next_lies}
use Rattle.sb_lex.proofs.next_answer.answer_from.Goals as goal
use Rattle.sb_lex.proofs.next_answer.answer_from.Goals.{After-token_at}

-- the gap that was passed over, in the bytes that were left
stop_behind : (c : After-token_at) → Stop c.args.bytes.now c.args.place
    (c.args.place + c.blank_len.result)
stop_behind c =
    let input = c.args.bytes.now in
    let from = c.args.place in
    let left : take (length input - from) (drop from input) ≡ drop from input = take_rest input
    from in
    let passed = c.blank_len.ensures in
    stop_from_gap input from c.requires (subst Gap left (record {
      size = c.blank_len.result;
      within = passed.within;
      blank = passed.blank;
      stops = passed.stops;
    }))

-- what was found there
found : (c : After-token_at) → c.token_at.result ≡ scan
    (drop (c.args.place + c.blank_len.result) c.args.bytes.now)
found c = c.token_at.ensures.found
    ∙ ap scan (take_rest c.args.bytes.now (c.args.place + c.blank_len.result))

pub returns-in-Some-clause-answer : goal.returns-in-Some-clause-answer
returns-in-Some-clause-answer c =
    let at = (goal.at.returns-in-Some-clause-answer c).After-token_at in
    answer_holds c.args.bytes.now c.args.place (c.args.place + c.blank_len.result)
    (Some (c.in-Some.kind, c.in-Some.len)) (stop_behind at) (sym (found at) ∙ c.in-Some.is)

pub returns-in-Some-clause-lies : goal.returns-in-Some-clause-lies
returns-in-Some-clause-lies c = next_lies _ _ (returns-in-Some-clause-answer c)

pub returns-in-None-clause-answer : goal.returns-in-None-clause-answer
returns-in-None-clause-answer c =
    let at = (goal.at.returns-in-None-clause-answer c).After-token_at in
    let place = c.args.place + c.blank_len.result in
    let holds = answer_holds c.args.bytes.now c.args.place place None (stop_behind at)
    (sym (found at) ∙ c.in-None.is) in
    subst (IsTokenAnswer (record { input = c.args.bytes.now; place = c.args.place }))
    (cond-false (eqb place (length c.args.bytes.now)) (Ok None) (Err (record { 0 = place }))
    (ne_eqb place (length c.args.bytes.now) c.if-start-bytes.false)) holds
