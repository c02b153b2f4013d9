use Rattle.std.proofs.Common.{subst}
use Rattle.sb_building.specs.Steps.Standing.{AreJudged}
use Rattle.sb_building.proofs.Conditions.FaultsAreConditions.{taken_are_judged}
use Rattle.sb_building.proofs.judging.standing.stand_taken.Goals as goal

pub returns-clause-judged : goal.returns-clause-judged
returns-clause-judged c =
    taken_are_judged c.args.file.now c.args.building c.args.unit c.args.products.now
    c.in_ok-products.products.items c.in_ok-all.all.items c.args.found.now c.stand_each.new.found
    c.in_ok-products.ensures
    (subst (λ ps. AreJudged c.args.file.now c.args.building c.args.unit ps c.in_ok-all.all.items
    c.args.found.now c.stand_each.new.found) c.as_slice.ensures.value c.in_ok-all.ensures.judged)
