use Rattle.std.proofs.Common.{◌≡◌, drop}
use Rattle.sb_lex.specs.Scanning.{after, close_at}
use Rattle.sb_lex.proofs.blanks.close_at.Given as goal

abbrev pub invariant-bytes : goal.invariant-bytes
invariant-bytes l = close_at l.text ≡ after l.at (close_at (drop l.at l.text))
