use Rattle.std.proofs.Common.{◌≡◌, ℕ, nat_eq, length}
use Rattle.std.specs.List.{list_any}
use Rattle.std.specs.Ordering.{nat_cmp}
use Rattle.std.specs.BTreeMap.{get}
use Rattle.sb_profile.specs.Steps.Links.{noted}
use Rattle.sb_profile.proofs.reading.links.note_each.Given as goal

abbrev pub invariant-members : goal.invariant-members
invariant-members l =
    (q : ℕ) → noted (list_any (nat_eq q) l.members) l.link (get nat_cmp l.links q)
    ≡ noted (list_any (nat_eq q) l.initial.members) l.link (get nat_cmp l.initial.links q)

abbrev pub decreases-members : goal.decreases-members
decreases-members l = length l.members
