use Rattle.std.proofs.Common.{take}
use Rattle.sb_profile.specs.Following.{to_each}
use Rattle.sb_profile.specs.Steps.Found.{Leads}
use Rattle.sb_profile.proofs.following.found.lead_each.Given as goal

abbrev pub invariant-numbers : goal.invariant-numbers
invariant-numbers l = Leads (to_each l.at (take l.number-index l.numbers)) l.fn.found l.found
