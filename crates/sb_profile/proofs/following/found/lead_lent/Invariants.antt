use Rattle.std.proofs.Common.{◌≡◌, ◌++◌, length}
use Rattle.sb_profile.specs.Following.{to_each}
use Rattle.sb_profile.proofs.following.found.lead_lent.Given as goal

abbrev pub invariant-numbers : goal.invariant-numbers
invariant-numbers l =
    (l.found.leads.items ++ to_each l.at l.numbers
    ≡ l.fn.found.leads.items ++ to_each l.at l.fn.numbers)
    × (l.found.unfit ≡ l.fn.found.unfit) × (l.found.absent ≡ l.fn.found.absent)

abbrev pub decreases-numbers : goal.decreases-numbers
decreases-numbers l = length l.numbers
