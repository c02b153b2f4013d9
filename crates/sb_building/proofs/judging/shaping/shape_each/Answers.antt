use Rattle.std.proofs.Common.{[], ◌∷◌, ◌++◌, take, sym, ap, ◌∙◌, subst}
use Rattle.std.proofs.lemmas.List.{take_more, take_all}
use Rattle.sb_building.specs.Steps.Shaping.{ShapesAreJudged}
use Rattle.sb_building.proofs.Products.ShapingOneByOne.{shaped_none, shaped_more}
use Rattle.sb_building.proofs.judging.shaping.shape_each.Goals as goal

pub products-init : goal.products-init
products-init c =
    subst (λ all. ShapesAreJudged c.args.file.now c.args.unit [] all c.args.found.now c.args.found.now)
    (sym c.new-all.ensures.items) (shaped_none c.args.file.now c.args.unit c.args.found.now)

pub products-preserved : goal.products-preserved
products-preserved c =
    subst (λ ps. ShapesAreJudged c.args.file.now c.args.unit ps c.shape.new.all.items c.args.found.now
    c.shape.new.found)
    (sym (take_more c.args.products.now c.products.product-index c.product-item.result c.products-test.true
    ∙ ap (λ p. take c.products.product-index c.args.products.now ++ p ∷ []) (sym c.product-item.is)))
    (shaped_more c.args.file.now c.args.unit (take c.products.product-index c.args.products.now)
    c.product-item.result
    c.products.all.items c.shape.new.all.items c.args.found.now c.products.found c.shape.new.found
    c.products.invariant c.in_ok-shape.ensures)

pub returns : goal.returns
returns c =
    subst (λ ps. ShapesAreJudged c.args.file.now c.args.unit ps c.products.all.items c.args.found.now
    c.products.found)
    (take_all c.products.product-index c.args.products.now c.products-test.false) c.products.invariant
