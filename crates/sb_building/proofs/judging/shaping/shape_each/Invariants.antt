use Rattle.std.proofs.Common.{take}
use Rattle.sb_building.specs.Steps.Shaping.{ShapesAreJudged}
use Rattle.sb_building.proofs.judging.shaping.shape_each.Given as goal

abbrev pub invariant-products : goal.invariant-products
invariant-products l =
    ShapesAreJudged l.file l.unit (take l.product-index l.products) l.all.items l.initial.found l.found
