use Rattle.std.proofs.Common.{take}
use Rattle.std.specs.Ordering.{nat_cmp}
use Rattle.std.specs.BTreeMap.{get}
use Rattle.sb_building.specs.Frames.{AreKnown}
use Rattle.sb_building.specs.Steps.Standing.{AreJudged}
use Rattle.sb_building.proofs.judging.standing.stand_each.Given as goal

abbrev pub invariant-products : goal.invariant-products
invariant-products l =
    AreKnown l.file l.building l.unit (get nat_cmp l.known)
    × AreJudged l.file l.building l.unit (take l.product-index l.products) l.all.items l.initial.found l.found
