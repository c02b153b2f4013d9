use Rattle.std.proofs.Common.{◌≡◌, ◌+◌, ◌∙◌, ap, subst, sym, length, [], Ok, Some, None, arith}
use Rattle.sb_lex.specs.Tokens.{IsNext, IsEnd, IsBadFrom, LiesBehind, Lies, AreTokensFrom, place_after}
use Rattle.bench_tokens.proofs.CountsSoFar.{SoFar, one_more, all_counted}
use Rattle.bench_tokens.proofs.counting.count_tokens.Goals as goal

pub calls-preserved : goal.calls-preserved
calls-preserved c =
    let at = c.calls.lexer in
    let t = c.in-Ok-Some.field-0-0 in
    let answer : c.next.result ≡ Ok (Some t) = c.in-Ok-Some.is ∙ ap Ok c.in-Ok-Some.field-0-is in
    let next : IsNext at.input at.place t = (c.next.ensures.token t).0 answer in
    let lies : LiesBehind at t = subst (Lies at) answer c.next.ensures.lies in
    let place : c.next.new.self.place ≡ t.end = ap (λ r. r.place) c.next.ensures.moved
    ∙ ap (place_after at) answer in
    let input : c.next.new.self.input ≡ c.args.bytes.now =
    ap (λ r. r.input) c.next.ensures.moved ∙ c.calls.invariant.input in
    let counted = one_more c.args.bytes.now c.calls.tokens at.place t c.calls.invariant.so_far
    (subst (λ l. IsNext l at.place t) c.calls.invariant.input next) in
    record {
      input = input;
      within = omega (arith, lies.within, ap length c.calls.invariant.input);
      counted = omega (arith, lies.behind, lies.some, c.calls.invariant.counted);
      so_far = subst (SoFar c.args.bytes.now (c.calls.tokens + 1)) (sym place) counted;
    }

pub returns-in-Ok-None : goal.returns-in-Ok-None
returns-in-Ok-None c =
    let at = c.calls.lexer in
    let none : IsEnd at.input at.place = c.next.ensures.none.0
    (c.in-Ok-None.is ∙ ap Ok c.in-Ok-None.field-0-is) in
    all_counted c.args.bytes.now c.calls.tokens at.place None c.calls.invariant.so_far
    (subst (λ l. AreTokensFrom l at.place [] None) c.calls.invariant.input none)

pub returns-in-Err : goal.returns-in-Err
returns-in-Err c =
    let at = c.calls.lexer in
    let bad : IsBadFrom at.input at.place c.in-Err.bad.0 = (c.next.ensures.bad c.in-Err.bad.0).0
    c.in-Err.is in
    all_counted c.args.bytes.now c.calls.tokens at.place (Some c.in-Err.bad)
    c.calls.invariant.so_far (subst (λ l. AreTokensFrom l at.place [] (Some c.in-Err.bad))
    c.calls.invariant.input bad)
