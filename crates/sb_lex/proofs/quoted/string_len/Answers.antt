use Rattle.std.proofs.Common.{◌≡◌, ◌-◌, ℕ, List, length, take, drop, sym, ◌∙◌, ap, arith}
use Rattle.std.specs.List.{prefix_len}
use Rattle.std.proofs.lemmas.List.{take_rest}
use Rattle.sb_lex.proofs.StringsByRuns.{is_plain, string_is_open, string_ends, string_goes_on}
use Rattle.sb_lex.proofs.quoted.string_len.Goals as goal

run_behind : (rest : List ℕ) (at n : ℕ) → n ≡ prefix_len is_plain
    (take (length rest - at) (drop at rest)) → n ≡ prefix_len is_plain (drop at rest)
run_behind rest at n len = len ∙ ap (prefix_len is_plain) (take_rest rest at)

pub returns-then-at-rest-clause-found : goal.returns-then-at-rest-clause-found
returns-then-at-rest-clause-found c =
    sym (string_is_open c.args.rest.now c.pieces.at c.plain_bytes-at.result
    c.pieces.invariant.so_far (run_behind c.args.rest.now c.pieces.at c.plain_bytes-at.result
    c.plain_bytes-at.ensures.len) (omega arith))

pub returns-then-byte_at-ne39-clause-found : goal.returns-then-byte_at-ne39-clause-found
returns-then-byte_at-ne39-clause-found c =
    sym (string_ends c.args.rest.now c.pieces.at c.plain_bytes-at.result c.pieces.invariant.so_far
    (run_behind c.args.rest.now c.pieces.at c.plain_bytes-at.result
    c.plain_bytes-at.ensures.len) (omega arith)
    (λ same. c.if-byte_at-ne39.true (c.byte_at.ensures.value ∙ same)))

pub pieces-preserved : goal.pieces-preserved
pieces-preserved c = record {
  within = omega (arith, c.byte_at.ensures.within (omega arith));
  so_far =
      string_goes_on c.args.rest.now c.pieces.at c.plain_bytes-at.result c.pieces.invariant.so_far
      (run_behind c.args.rest.now c.pieces.at c.plain_bytes-at.result
      c.plain_bytes-at.ensures.len) (omega arith)
      (sym c.byte_at.ensures.value ∙ c.if-byte_at-ne39.false);
}
