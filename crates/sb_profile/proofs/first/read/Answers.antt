use Rattle.std.proofs.Common.{sym, subst, ◌∙◌}
use Rattle.std.specs.Ordering.{nat_cmp}
use Rattle.std.specs.BTreeSet.{contains}
use Rattle.theory_lists.specs.Members.{Stands}
use Rattle.sb_profile.specs.declared.following.places.Place.TheVariants as place
use Rattle.sb_profile.proofs.Verdicts.AllIsRead.{lowest_found}
use Rattle.sb_profile.proofs.first.read.Goals as goal

pub returns-clause-lowest : goal.returns-clause-lowest
returns-clause-lowest c = λ said says sorted.
    let tables = c.in_ok-tables.ensures.tables said says sorted in
    let building = c.in_ok-building.ensures said says (c.as_slice.ensures.value ∙ sorted.buildings) in
    lowest_found (contains nat_cmp c.in_ok-bodies.bodies) c.args.file.now said c.args.kinds.now
    c.first_leads.new.found c.in_ok-placed.placed c.join.new.found c.survey.new.found says sorted
    (c.in_ok-placed.ensures.leads said says tables building c.new.ensures.items)
    (λ n stands. c.in_ok-bodies.ensures.leads said says n
    (subst (Stands (place.Shape, n)) (sym c.as_slice-2.ensures.value) stands))
    (c.in_ok-bodies.ensures.bodies said says)
    (c.in_ok-placed.ensures.unfit ∙ c.in_ok-tables.ensures.unfit said says)
    c.in_ok-placed.ensures.absent
    (c.in_ok-placed.ensures.placed said says c.new.ensures.items)
    c.in_ok-join.ensures.leads c.in_ok-join.ensures.unfit c.in_ok-join.ensures.absent
    (λ ns first begun. c.in_ok-survey.ensures said ns first says begun)

pub returns-clause-tables : goal.returns-clause-tables
returns-clause-tables c = λ said says sorted. c.in_ok-tables.ensures.tables said says sorted

pub returns-clause-building : goal.returns-clause-building
returns-clause-building c = λ said says sorted.
    c.in_ok-building.ensures said says (c.as_slice.ensures.value ∙ sorted.buildings)
