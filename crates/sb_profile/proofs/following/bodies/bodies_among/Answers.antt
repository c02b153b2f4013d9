use Rattle.std.proofs.Common.{ap, ◌∙◌, ◌&&◌, nat_eq}
use Rattle.std.specs.List.{list_any}
use Rattle.std.proofs.lemmas.List.{take_all}
use Rattle.sb_profile.specs.Following as following
use Rattle.sb_profile.proofs.ListsOfNumbers.{passing_more}
use Rattle.sb_profile.proofs.following.bodies.bodies_among.Goals as goal

pub numbers-preserved : goal.numbers-preserved
numbers-preserved c = λ said says q.
    passing_more (following.is_body said) c.args.representations.now c.numbers.number-index q
    c.in_ok-is_body.is_body _ _ c.numbers-test.true (c.numbers.invariant said says q)
    (c.in_ok-is_body.ensures said says) (c.in_ok-put_if.ensures q)

pub returns : goal.returns
returns c = λ said says q.
    c.numbers.invariant said says q
    ∙ ap (λ ns. list_any (nat_eq q) ns && following.is_body said q)
    (take_all c.numbers.number-index c.args.representations.now c.numbers-test.false)
