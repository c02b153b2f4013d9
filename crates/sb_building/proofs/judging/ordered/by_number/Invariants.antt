use Rattle.std.proofs.Common.{take}
use Rattle.std.specs.Ordering.{nat_cmp}
use Rattle.std.specs.BTreeMap.{get}
use Rattle.sb_profile.specs.declared.reading.products.Shaped.{Shaped}
use Rattle.sb_building.specs.Steps.Order.{HasEach}
use Rattle.sb_building.proofs.judging.ordered.by_number.Given as goal

abbrev pub invariant-products : goal.invariant-products
invariant-products l =
    HasEach (λ (p : Shaped). p.number) (take l.product-index l.products) (get nat_cmp l.by_number)
