use Rattle.std.proofs.Common.{sym, subst}
use Rattle.sb_profile.specs.declared.reading.products.Shaped.{Shaped}
use Rattle.sb_building.specs.Steps.Order.{AreInOrder}
use Rattle.sb_building.proofs.ListsOfProducts.EachByNumber.{in_order}
use Rattle.sb_building.proofs.judging.ordered.in_order.Goals as goal

pub returns : goal.returns
returns c =
    subst (AreInOrder (λ (p : Shaped). p.number) c.args.products.now) (sym c.in_ok-list.ensures.values)
    (in_order (λ (p : Shaped). p.number) c.args.products.now c.in_ok-by_number.by_number
    c.in_ok-list.ensures.ordered c.in_ok-by_number.ensures)
