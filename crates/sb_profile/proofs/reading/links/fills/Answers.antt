use Rattle.std.proofs.Common.{ap, ◌∙◌, get_or, None}
use Rattle.std.specs.Prelude.{filter}
use Rattle.std.proofs.lemmas.List.{take_all}
use Rattle.std.specs.BTreeSet.{contains}
use Rattle.std.specs.Ordering.{nat_cmp}
use Rattle.sb_profile.specs.Entities.Entity.{rel_fills_element}
use Rattle.sb_profile.specs.Contents.{is_unfit}
use Rattle.sb_profile.specs.Lowest.{lower_if}
use Rattle.sb_profile.specs.Steps.Links.{noted_all, by_voiding, lowered}
use Rattle.sb_profile.proofs.TablesOfFiles.LinksAreNoted.{noted_more, lowered_more}
use Rattle.sb_profile.proofs.reading.links.fills.Goals as goal

pub relations-preserved : goal.relations-preserved
relations-preserved c =
    let xs = c.args.relations.now in
    let i = c.relations.relation-index in
    let r = get_or xs i 0 in (
      λ said says q.
          c.in_ok-note_filling.ensures.links said says q
          ∙ (ap (by_voiding (contains nat_cmp c.args.openings.now) q r (said.given rel_fills_element r)) (c.relations.invariant.0 said says q)
          ∙ noted_more (λ s found. by_voiding (contains nat_cmp c.args.openings.now) q s (said.given rel_fills_element s) found) None xs i
          c.relations-test.true),
      λ said says.
          c.in_ok-note_filling.ensures.unfit said says
          ∙ (ap (lower_if (is_unfit said rel_fills_element r) r) (c.relations.invariant.1 said says)
          ∙ lowered_more (is_unfit said rel_fills_element) c.args.unfit.now xs i c.relations-test.true),
    )

pub returns : goal.returns
returns c =
    let xs = c.args.relations.now in
    let whole = take_all c.relations.relation-index xs c.relations-test.false in
    record {
      links = λ said says q.
          c.relations.invariant.0 said says q
          ∙ ap (noted_all (λ s found. by_voiding (contains nat_cmp c.args.openings.now) q s (said.given rel_fills_element s) found) None) whole;
      unfit = λ said says.
          c.relations.invariant.1 said says
          ∙ ap (λ ns. lowered c.args.unfit.now (filter (is_unfit said rel_fills_element) ns)) whole;
    }
