use Rattle.std.proofs.Common.{take}
use Rattle.sb_profile.specs.Contents.{Contents, Says}
use Rattle.sb_profile.specs.Steps.Kinds.{AreSorted}
use Rattle.sb_profile.proofs.reading.kinds.by_keyword.Given as goal

abbrev pub invariant-numbers : goal.invariant-numbers
invariant-numbers l =
    (c : Contents) → Says l.file c → AreSorted c (take l.number-index l.number-items) l.kinds
