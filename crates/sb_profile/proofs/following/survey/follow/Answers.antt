use Rattle.std.proofs.Common.{sym, subst}
use Rattle.std.specs.Ordering.{nat_cmp}
use Rattle.std.specs.BTreeSet.{contains}
use Rattle.theory_lists.specs.Members.{Stands}
use Rattle.sb_profile.specs.Steps.Survey.{wanted_there}
use Rattle.sb_profile.proofs.Followed.EachIsFound.{each_of_none, each_more, each_all}
use Rattle.sb_profile.proofs.Followed.PlacesAreFollowed.{surveyed_more}
use Rattle.sb_profile.proofs.following.survey.follow.Goals as goal

pub numbers-init : goal.numbers-init
numbers-init c = λ said says.
    each_of_none (contains nat_cmp c.args.bodies.now) said c.args.at c.args.found.now

pub numbers-preserved : goal.numbers-preserved
numbers-preserved c = λ said says.
    each_more (contains nat_cmp c.args.bodies.now) said c.args.at
    c.as_slice-number-items.result.now c.numbers.number-index c.args.found.now c.numbers.found
    c.see_at.new.found c.numbers-test.true (c.numbers.invariant said says)
    (c.in_ok-see_at.ensures said says)

pub returns : goal.returns
returns c = λ said roots first says surveyed.
    let xs = c.as_slice-number-items.result.now in
    let bodies = contains nat_cmp c.args.bodies.now in
    let each = each_all bodies said c.args.at xs c.numbers.number-index c.args.found.now
    c.numbers.found c.numbers-test.false (c.numbers.invariant said says) in
    surveyed_more bodies said roots first c.args.at c.args.found.now c.numbers.found xs
    (λ n. (
      λ stands. subst (λ ls. Stands n (wanted_there c.args.at ls)) c.as_slice.ensures.value
          ((c.in_ok-numbers.ensures n).0
          (subst (Stands n) c.as_slice-number-items.ensures.value stands)),
      λ stands. subst (Stands n) (sym c.as_slice-number-items.ensures.value)
          ((c.in_ok-numbers.ensures n).1
          (subst (λ ls. Stands n (wanted_there c.args.at ls)) (sym c.as_slice.ensures.value)
          stands)),
    ))
    each.leads_are each.unfit_is each.absent_is surveyed
