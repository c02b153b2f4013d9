use Rattle.std.proofs.Common.{arith}
use Rattle.std.proofs.lemmas.Grind.{common_steps}
use Rattle.std.proofs.lemmas.List.Folds.{list_any_more}
use Rattle.sb_profile.proofs.reading.products.numbers_of.Goals as goal

pub products-preserved : goal.products-preserved
products-preserved c = λ q.
    grind (arith, common_steps, list_any_more, c.products.invariant q, c.in_ok-put.ensures q)
