use Rattle.std.proofs.Common.{◌≡◌, is_some, take}
use Rattle.std.specs.Prelude.{filter}
use Rattle.std.specs.Ordering.{nat_cmp}
use Rattle.std.specs.BTreeMap.{get}
use Rattle.sb_profile.proofs.reading.products.voided.Given as goal

abbrev pub invariant-openings : goal.invariant-openings
invariant-openings l =
    l.taken.items
    ≡ filter (λ p. is_some (get nat_cmp l.links p.number)) (take l.opening-index l.openings)
