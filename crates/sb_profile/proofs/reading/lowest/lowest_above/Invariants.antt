use Rattle.std.proofs.Common.{◌≡◌, take}
use Rattle.std.specs.Prelude.{filter, nat_lt}
use Rattle.sb_profile.specs.Lowest.{lowest_of}
use Rattle.sb_profile.proofs.reading.lowest.lowest_above.Given as goal

abbrev pub invariant-numbers : goal.invariant-numbers
invariant-numbers l =
    l.found ≡ lowest_of (filter (nat_lt l.bound) (take l.number-index l.numbers))
