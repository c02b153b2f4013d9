use Rattle.std.proofs.Common.{◌≡◌, ◌<◌, [], false, length, get_or, sym, ap, ◌∙◌, subst, append-nil, arith}
use Rattle.sb_profile.specs.declared.following.places.Place.TheVariants as place
use Rattle.sb_profile.specs.Following.{below, parent_of}
use Rattle.sb_profile.specs.Steps.Chains.{Climbs}
use Rattle.sb_profile.specs.Steps.Found.{Finds}
use Rattle.sb_profile.proofs.Followed.ChainsAreReached.{climbs_first, climbs_more, climbs_all, grows_more, grown_here}
use Rattle.sb_profile.proofs.Followed.EachIsFound.{each_more, each_all, placement_found}
use Rattle.sb_profile.proofs.following.chains.climb.Goals as goal

pub placements-init : goal.placements-init
placements-init c = (
  c.requires.seen,
  record { more = []; is = sym (append-nil c.args.chain.now.placements.items) },
  ap length c.as_slice-end.ensures.value,
  (λ said says building level reached.
      climbs_first said level c.args.chain.now.placements.items c.args.asked reached),
  (λ said says base found. found),
)

pub placements-preserved : goal.placements-preserved
placements-preserved c =
    let old = c.args.chain.now.placements.items in
    let items = c.placements.chain.placements.items in
    let reaches = c.in_ok-reach.ensures in
    let whole = c.placements.invariant.2 in
    let test = c.placements-test.true in
    let within : c.placements.at < length old = omega arith in (
      reaches.seen,
      grows_more old items c.reach.new.chain.placements.items c.placements.invariant.1
          reaches.grows,
      c.placements.invariant.2,
      (λ said says building level reached.
          climbs_more said level old c.args.asked reached items
          c.reach.new.chain.placements.items c.placements.at
          (below c.args.building c.in_ok-parent.parent) c.placements.invariant.1 within
          (c.placements.invariant.3 said says building level reached)
          (ap (λ top. below top c.in_ok-parent.parent) building
          ∙ ap (below _)
          (c.in_ok-parent.ensures.parent said says
          ∙ ap (λ ns. parent_of said (get_or ns c.placements.at 0))
          c.as_slice.ensures.value))
          reaches.grows reaches.old_or_found reaches.has_found),
      (λ said says base found.
          each_more (λ _. false) said place.Placement old c.placements.at base c.placements.found
          c.see_placement.new.found within (c.placements.invariant.4 said says base found)
          (subst
          (λ n. Finds (λ _. false) said place.Placement n c.placements.found
          c.see_placement.new.found)
          (ap (λ ns. get_or ns c.placements.at 0) c.as_slice.ensures.value
          ∙ grown_here old items c.placements.at c.placements.invariant.1 within)
          (placement_found said _ c.placements.found c.see_placement.new.found
          (c.in_ok-parent.ensures.found said says)))),
    )

pub returns-clause-reached : goal.returns-clause-reached
returns-clause-reached c = λ said says building level reached.
    let old = c.args.chain.now.placements.items in
    let items = c.placements.chain.placements.items in
    let whole = c.placements.invariant.2 in
    let past = c.placements-test.false in
    let within = c.requires.within in
    let last = c.placements.auto.at-end (omega arith) in
    let at_end : c.placements.at ≡ length old = omega arith in
    climbs_all said level old c.args.asked reached items c.placements.invariant.1
    (subst (Climbs said level items) at_end
    (c.placements.invariant.3 said says building level reached))

pub returns-clause-found : goal.returns-clause-found
returns-clause-found c = λ said says base found.
    let old = c.args.chain.now.placements.items in
    let whole = c.placements.invariant.2 in
    let past = c.placements-test.false in
    each_all (λ _. false) said place.Placement old c.placements.at base c.placements.found
    (omega arith) (c.placements.invariant.4 said says base found)
