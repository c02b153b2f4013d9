use Rattle.std.proofs.Common.{ap, ◌∙◌, get_or}
use Rattle.std.specs.Prelude.{filter}
use Rattle.std.proofs.lemmas.List.{take_all}
use Rattle.sb_profile.specs.Contents.{is_unfit}
use Rattle.sb_profile.specs.Lowest.{lower_if}
use Rattle.sb_profile.specs.Steps.Links.{lowered}
use Rattle.sb_profile.proofs.TablesOfFiles.LinksAreNoted.{lowered_more}
use Rattle.sb_profile.proofs.reading.products.unfit_among.Goals as goal

pub numbers-preserved : goal.numbers-preserved
numbers-preserved g c =
    let xs = c.args.numbers.now in
    let i = c.numbers.number-index in
    let n = get_or xs i 0 in
    λ said says.
    c.in_ok-lower_unfit.ensures said says
    ∙ (ap (lower_if (is_unfit said g.V.Seen.entity n) n) (c.numbers.invariant said says)
    ∙ lowered_more (is_unfit said g.V.Seen.entity) c.args.unfit.now xs i c.numbers-test.true)

pub returns : goal.returns
returns g c = λ said says.
    c.numbers.invariant said says
    ∙ ap (λ ns. lowered c.args.unfit.now (filter (is_unfit said g.V.Seen.entity) ns))
    (take_all c.numbers.number-index c.args.numbers.now c.numbers-test.false)
