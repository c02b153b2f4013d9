use Rattle.std.proofs.Common.{[], take, sym, subst}
use Rattle.std.proofs.lemmas.List.{take_more, take_all}
use Rattle.sb_building.specs.Steps.Standing.{AreJudged}
use Rattle.sb_building.proofs.Products.StandingOneByOne.{judged_none, judged_more}
use Rattle.sb_building.proofs.judging.standing.stand_each.Goals as goal

pub products-init : goal.products-init
products-init c = (
  c.requires,
  subst (λ all. AreJudged c.args.file.now c.args.building c.args.unit [] all c.args.found.now c.args.found.now)
      (sym c.new-all.ensures.items)
      (judged_none c.args.file.now c.args.building c.args.unit c.args.found.now),
)

pub stand-requires : goal.stand-requires
stand-requires c = c.products.invariant.0

pub products-preserved : goal.products-preserved
products-preserved c = (
  c.in_ok-stand.ensures.known,
  subst (λ ps. AreJudged c.args.file.now c.args.building c.args.unit ps c.stand.new.all.items
      c.args.found.now c.stand.new.found)
      (sym (take_more c.args.products.now c.products.product-index _ c.products-test.true))
      (judged_more c.args.file.now c.args.building c.args.unit (take c.products.product-index c.args.products.now)
      _ c.products.all.items c.stand.new.all.items c.args.found.now c.products.found c.stand.new.found
      c.products.invariant.1 c.in_ok-stand.ensures.judged),
)

pub returns-clause-judged : goal.returns-clause-judged
returns-clause-judged c =
    subst (λ ps. AreJudged c.args.file.now c.args.building c.args.unit ps c.products.all.items
    c.args.found.now c.products.found)
    (take_all c.products.product-index c.args.products.now c.products-test.false) c.products.invariant.1

pub returns-clause-known : goal.returns-clause-known
returns-clause-known c = c.products.invariant.0
