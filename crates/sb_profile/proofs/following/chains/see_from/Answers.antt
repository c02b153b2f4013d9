use Rattle.std.proofs.Common.{false, arith}
use Rattle.sb_profile.specs.declared.following.places.Place.TheVariants as place
use Rattle.sb_profile.proofs.Followed.EachIsFound.{each_more, each_all, placement_found}
use Rattle.sb_profile.proofs.following.chains.see_from.Goals as goal

pub placements-init : goal.placements-init
placements-init c = λ said says base found. found

pub placements-preserved : goal.placements-preserved
placements-preserved c = λ said says base found.
    each_more (λ _. false) said place.Placement c.args.placements.now c.placements.at base
    c.placements.found c.see_placement.new.found c.placements-test.true
    (c.placements.invariant said says base found)
    (placement_found said _ c.placements.found c.see_placement.new.found
    (c.in_ok-see_placement.ensures.found said says))

pub returns : goal.returns
returns c = λ said says base found.
    let past = c.placements-test.false in
    each_all (λ _. false) said place.Placement c.args.placements.now c.placements.at base
    c.placements.found (omega arith) (c.placements.invariant said says base found)
