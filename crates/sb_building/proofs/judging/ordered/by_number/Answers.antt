use Rattle.std.proofs.Common.{take, sym, subst}
use Rattle.std.specs.Ordering.{nat_cmp}
use Rattle.std.specs.BTreeMap.{get}
use Rattle.std.proofs.lemmas.List.{take_more, take_all}
use Rattle.sb_profile.specs.declared.reading.products.Shaped.{Shaped}
use Rattle.sb_building.specs.Steps.Order.{HasEach}
use Rattle.sb_building.proofs.ListsOfProducts.EntriesInOrder.{none_found}
use Rattle.sb_building.proofs.ListsOfProducts.EachByNumber.{has_none, has_more}
use Rattle.sb_building.proofs.judging.ordered.by_number.Goals as goal

pub products-init : goal.products-init
products-init c =
    has_none (λ (p : Shaped). p.number) (get nat_cmp c.new-by_number.result)
    (none_found c.new-by_number.result c.new-by_number.ensures.empty)

pub products-preserved : goal.products-preserved
products-preserved c =
    subst (λ ps. HasEach (λ (p : Shaped). p.number) ps (get nat_cmp c.put.new.by_number))
    (sym (take_more c.args.products.now c.products.product-index _ c.products-test.true))
    (has_more (λ (p : Shaped). p.number) (take c.products.product-index c.args.products.now) _
    (get nat_cmp c.products.by_number) (get nat_cmp c.put.new.by_number) c.products.invariant
    c.in_ok-put.ensures)

pub returns : goal.returns
returns c =
    subst (λ ps. HasEach (λ (p : Shaped). p.number) ps (get nat_cmp c.products.by_number))
    (take_all c.products.product-index c.args.products.now c.products-test.false) c.products.invariant
