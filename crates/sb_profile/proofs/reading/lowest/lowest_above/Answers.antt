use Rattle.std.proofs.Common.{ap, ◌∙◌, get_or}
use Rattle.std.specs.Prelude.{nat_lt}
use Rattle.sb_profile.specs.Lowest.{lower_if}
use Rattle.sb_profile.proofs.LowestOfAList.{lowest_more_if}
use Rattle.sb_profile.proofs.reading.lowest.lowest_above.Goals as goal

pub numbers-preserved : goal.numbers-preserved
numbers-preserved c =
    let n = get_or c.args.numbers.now c.numbers.number-index 0 in
    c.lower_above-found.ensures
    ∙ (ap (lower_if (nat_lt c.args.bound n) n) c.numbers.invariant
    ∙ lowest_more_if (nat_lt c.args.bound) c.args.numbers.now c.numbers.number-index
    c.numbers-test.true)
