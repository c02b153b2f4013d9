use Rattle.std.proofs.Common.{ap, ◌∙◌, get_or, ◌++◌}
use Rattle.std.specs.Prelude.{filter, filter_map, option_to_list}
use Rattle.std.proofs.lemmas.List.{take_all}
use Rattle.sb_profile.specs.Entities.Entity.{space}
use Rattle.sb_profile.specs.Contents.{is_unfit}
use Rattle.sb_profile.specs.Lowest.{lower_if}
use Rattle.sb_profile.specs.Steps.Links.{lowered}
use Rattle.sb_profile.specs.Steps.Shapes.{shaped_space}
use Rattle.sb_profile.proofs.TablesOfFiles.LinksAreNoted.{lowered_more}
use Rattle.sb_profile.proofs.ListsOfNumbers.{filter_map_more}
use Rattle.sb_profile.proofs.reading.products.spaces.Goals as goal

pub numbers-preserved : goal.numbers-preserved
numbers-preserved c =
    let xs = c.args.numbers.now in
    let i = c.numbers.number-index in
    let n = get_or xs i 0 in (
      λ said says.
          c.in_ok-add_space.ensures.products said says
          ∙ (ap (λ ps. ps ++ option_to_list (shaped_space said n)) (c.numbers.invariant.0 said says)
          ∙ filter_map_more (shaped_space said) xs i c.numbers-test.true),
      λ said says.
          c.in_ok-add_space.ensures.unfit said says
          ∙ (ap (lower_if (is_unfit said space n) n) (c.numbers.invariant.1 said says)
          ∙ lowered_more (is_unfit said space) c.args.unfit.now xs i c.numbers-test.true),
    )

pub returns : goal.returns
returns c =
    let xs = c.args.numbers.now in
    let whole = take_all c.numbers.number-index xs c.numbers-test.false in
    record {
      products = λ said says.
          c.numbers.invariant.0 said says ∙ ap (filter_map (shaped_space said)) whole;
      unfit = λ said says.
          c.numbers.invariant.1 said says
          ∙ ap (λ ns. lowered c.args.unfit.now (filter (is_unfit said space) ns)) whole;
    }
