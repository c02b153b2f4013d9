-- What stands there is the text with the first number, and behind it the others so far.
use Rattle.std.proofs.Common.{◌≡◌, ◌++◌, take}
use Rattle.std.specs.Prelude.{codes}
use Rattle.std.specs.List.{flat_map}
use Rattle.sb_texts.specs.Numerals.{reference}
use Rattle.sb_texts.proofs.references.append_references.Given as goal

abbrev pub invariant-loop-number : goal.invariant-loop-number
invariant-loop-number l =
    l.text ≡ l.initial.text
    ++ flat_map (λ n. codes "," ++ reference n) (take l.number-index l.rest)
