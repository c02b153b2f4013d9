use Rattle.std.proofs.Common.{sym, subst}
use Rattle.std.specs.Ordering.{nat_cmp}
use Rattle.std.specs.BTreeSet.{contains}
use Rattle.sb_profile.specs.declared.following.places.Place.TheVariants as place
use Rattle.theory_lists.specs.Members.{Stands}
use Rattle.sb_profile.specs.Steps.Survey.{wanted_there}
use Rattle.sb_profile.proofs.Followed.EachIsFound.{each_of_none, each_more, each_all}
use Rattle.sb_profile.proofs.Followed.PlacesAreFollowed.{surveyed_more}
use Rattle.sb_profile.proofs.following.survey.follow_representations.Goals as goal

pub numbers-init : goal.numbers-init
numbers-init c = λ said says are.
    each_of_none (contains nat_cmp c.args.bodies.now) said place.Representation c.args.found.now

pub numbers-preserved : goal.numbers-preserved
numbers-preserved c = λ said says are.
    each_more (contains nat_cmp c.args.bodies.now) said place.Representation
    c.as_slice-number-items.result.now c.numbers.number-index c.args.found.now c.numbers.found
    c.see_representation.new.found c.numbers-test.true (c.numbers.invariant said says are)
    (c.in_ok-see_representation.ensures said says are)

pub returns : goal.returns
returns c = λ said roots first says surveyed.
    let xs = c.as_slice-number-items.result.now in
    let bodies = contains nat_cmp c.args.bodies.now in
    let each = each_all bodies said place.Representation xs c.numbers.number-index c.args.found.now
    c.numbers.found c.numbers-test.false (c.numbers.invariant said says surveyed.bodies_are) in
    surveyed_more bodies said roots first place.Representation c.args.found.now c.numbers.found xs
    (λ n. (
      λ stands. subst (λ ls. Stands n (wanted_there place.Representation ls)) c.as_slice.ensures.value
          ((c.in_ok-numbers.ensures n).0
          (subst (Stands n) c.as_slice-number-items.ensures.value stands)),
      λ stands. subst (Stands n) (sym c.as_slice-number-items.ensures.value)
          ((c.in_ok-numbers.ensures n).1
          (subst (λ ls. Stands n (wanted_there place.Representation ls)) (sym c.as_slice.ensures.value)
          stands)),
    ))
    each.leads_are each.unfit_is each.absent_is surveyed
