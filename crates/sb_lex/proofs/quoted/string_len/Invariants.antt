use Rattle.std.proofs.Common.{◌≡◌, ◌≤◌, ◌-◌, length, drop}
use Rattle.sb_lex.specs.Scanning.{after, string_len}
use Rattle.sb_lex.proofs.quoted.string_len.Given as goal

abbrev pub invariant-pieces : goal.invariant-pieces
invariant-pieces l = record {
  within : l.at ≤ length l.rest;
  so_far : string_len l.rest ≡ after l.at (string_len (drop l.at l.rest));
}

abbrev pub decreases-pieces : goal.decreases-pieces
decreases-pieces l = length l.rest - l.at
