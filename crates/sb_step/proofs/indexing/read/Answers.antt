use Rattle.sb_step.proofs.Names.{◌≡◌, ℕ, List, Option, Ok, Err, Some, None, sym, ap, ◌∙◌, subst, Token, IsTokenAnswer, IsNext, Reading, moved, start, state_of, Progress, IsRead}
use Rattle.sb_step.proofs.Collecting.ReadingGoesOn.{nothing_read, one_more, fault_at_bad, read_at_end, error_answers}
use Rattle.sb_step.proofs.indexing.read.Goals as goal

-- the token that was answered is the next one of the input
next_is : (input : List ℕ) (at : Reading) (answer : Option Token) (t : Token)
    → answer ≡ Some t → at.input ≡ input → IsTokenAnswer at (Ok answer)
    → IsNext input at.place t
next_is input at answer t is same answered =
    subst (λ i. IsNext i at.place t) same
    (subst (λ o. IsTokenAnswer at (Ok o)) is answered)

pub tokens-init : goal.tokens-init
tokens-init c = record {
  input_is = ap (λ r. r.input) c.new-lexer.ensures;
  progress = subst
      (λ s. Progress c.args.bytes.now c.new-lexer.result.place s c.new-collected.result)
      (sym c.new-machine.ensures)
      (subst (λ k. Progress c.args.bytes.now k start c.new-collected.result)
      (sym (ap (λ r. r.place) c.new-lexer.ensures))
      (nothing_read c.args.bytes.now c.new-collected.result (c.new-collected.ensures c.args.bytes.now)));
}

pub tokens-preserved : goal.tokens-preserved
tokens-preserved c =
    let input = c.args.bytes.now in
    let invariant = c.tokens.invariant in
    let next = next_is input c.tokens.lexer _ c.in-Ok-Some.token c.in-Ok-Some.field-0-is
    invariant.input_is c.in-Ok-Some.ensures.answer in
    let behind : c.next.new.self ≡ moved c.tokens.lexer (Ok (Some c.in-Ok-Some.token)) =
    subst (λ o. c.next.new.self ≡ moved c.tokens.lexer (Ok o)) c.in-Ok-Some.field-0-is
    c.in-Ok-Some.ensures.moved in
    record {
      input_is = ap (λ r. r.input) behind ∙ invariant.input_is;
      progress = subst
          (λ k. Progress input k (state_of c.accept.new.machine) c.accept.new.collected)
          (sym (ap (λ r. r.place) behind))
          (one_more invariant.progress next c.in-Ok.ensures);
    }

pub returns-in-Err-accept : goal.returns-in-Err-accept
returns-in-Err-accept c =
    let input = c.args.bytes.now in
    let place = c.tokens.lexer.place in
    let invariant = c.tokens.invariant in
    let next = next_is input c.tokens.lexer _ c.in-Ok-Some.token c.in-Ok-Some.field-0-is
    invariant.input_is c.in-Ok-Some.ensures.answer in
    error_answers c.tokens_are_one_list.ensures.exist_from input place c.in-Ok-Some.token
    (state_of c.tokens.machine)
    (state_of c.accept.new.machine) c.tokens.collected c.accept.new.collected
    c.in-Err-accept.error invariant.progress next c.in-Err-accept.ensures

pub finish-requires : goal.finish-requires
finish-requires c =
    let input = c.args.bytes.now in
    let place = c.tokens.lexer.place in
    let invariant = c.tokens.invariant in
    let ends = subst (λ i. IsTokenAnswer (record { input = i; place = place }) (Ok None))
    invariant.input_is
    (subst (λ o. IsTokenAnswer c.tokens.lexer (Ok o)) c.in-Ok-None.field-0-is
    c.in-Ok-None.ensures.answer) in
    subst (λ e. IsRead input e c.tokens.collected) (sym c.end.ensures)
    (read_at_end input place (state_of c.tokens.machine) c.tokens.collected
    invariant.progress ends)

pub returns-in-Err : goal.returns-in-Err
returns-in-Err c =
    let input = c.args.bytes.now in
    let place = c.tokens.lexer.place in
    let invariant = c.tokens.invariant in
    fault_at_bad input place c.in-Err.field-0.0 (state_of c.tokens.machine) c.tokens.collected
    invariant.progress
    (subst (λ i. IsTokenAnswer (record { input = i; place = place }) (Err c.in-Err.field-0))
    invariant.input_is c.in-Err.ensures.answer)
