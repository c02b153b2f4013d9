use Rattle.std.proofs.Common.{◌≤◌, ◌-◌, length, take}
use Rattle.sb_lex.specs.Kinds.{Blank}
use Rattle.sb_lex.proofs.blanks.blank_len.Given as goal

abbrev pub invariant-pieces : goal.invariant-pieces
invariant-pieces l = record {
  within : l.at ≤ length l.rest;
  blank : Blank (take l.at l.rest);
}

abbrev pub decreases-pieces : goal.decreases-pieces
decreases-pieces l = length l.rest - l.at
