use Rattle.std.proofs.Common.{◌≡◌, ◌≤◌, ◌-◌, length}
use Rattle.bench_index.proofs.looking.look.Given as goal

abbrev pub invariant-tokens : goal.invariant-tokens
invariant-tokens l = record {
  input : l.lexer.input ≡ l.bytes;
  within : l.lexer.place ≤ length l.bytes;
  counted : l.looked.names ≤ l.lexer.place;
  found : l.looked.found ≤ l.looked.names;
}

abbrev pub decreases-tokens : goal.decreases-tokens
decreases-tokens l = length l.bytes - l.lexer.place
