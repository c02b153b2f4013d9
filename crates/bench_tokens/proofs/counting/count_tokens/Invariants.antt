use Rattle.std.proofs.Common.{◌≡◌, ◌≤◌, ◌-◌, length}
use Rattle.bench_tokens.proofs.CountsSoFar.{SoFar}
use Rattle.bench_tokens.proofs.counting.count_tokens.Given as goal

abbrev pub invariant-calls : goal.invariant-calls
invariant-calls l = record {
  input : l.lexer.input ≡ l.bytes;
  within : l.lexer.place ≤ length l.bytes;
  counted : l.tokens ≤ l.lexer.place;
  so_far : SoFar l.bytes l.tokens l.lexer.place;
}

abbrev pub decreases-calls : goal.decreases-calls
decreases-calls l = length l.bytes - l.lexer.place
