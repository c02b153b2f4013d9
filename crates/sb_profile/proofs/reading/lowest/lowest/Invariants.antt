use Rattle.std.proofs.Common.{◌≡◌, take}
use Rattle.sb_profile.specs.Lowest.{lowest_of}
use Rattle.sb_profile.proofs.reading.lowest.lowest.Given as goal

abbrev pub invariant-numbers : goal.invariant-numbers
invariant-numbers l = l.found ≡ lowest_of (take l.number-index l.numbers)
