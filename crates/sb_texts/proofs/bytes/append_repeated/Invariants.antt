-- What stands there is the text as it was and the byte as often as so far.
use Rattle.std.proofs.Common.{◌≡◌, ◌++◌, replicate}
use Rattle.sb_texts.proofs.bytes.append_repeated.Given as goal

abbrev pub invariant-loop-turn : goal.invariant-loop-turn
invariant-loop-turn l = l.text ≡ l.initial.text ++ replicate l._turn l.byte
