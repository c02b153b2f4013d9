use Rattle.std.proofs.Common.{ap, ◌∙◌, get_or}
use Rattle.sb_profile.specs.Lowest.{lower_of}
use Rattle.sb_profile.proofs.LowestOfAList.{lowest_more}
use Rattle.sb_profile.proofs.reading.lowest.lowest.Goals as goal

pub numbers-preserved : goal.numbers-preserved
numbers-preserved c =
    c.lower-found.ensures
    ∙ (ap (lower_of (get_or c.args.numbers.now c.numbers.number-index 0)) c.numbers.invariant
    ∙ lowest_more c.args.numbers.now c.numbers.number-index c.numbers-test.true)
