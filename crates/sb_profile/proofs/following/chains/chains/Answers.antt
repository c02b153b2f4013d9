use Rattle.std.proofs.Common.{◌≡◌, ◌+◌, false, length, take, ap, sym, ◌∙◌, subst, arith}
use Rattle.sb_profile.specs.declared.following.places.Place.TheVariants as place
use Rattle.sb_profile.specs.Steps.Chains.{AreReached, last_level, FindsPlacements}
use Rattle.sb_profile.proofs.Followed.ChainsAreReached.{reached_first, grown_length, grown_whole}
use Rattle.sb_profile.proofs.Followed.EachIsFound.{each_of_none}
use Rattle.sb_profile.proofs.following.chains.chains.Goals as goal

pub levels-init : goal.levels-init
levels-init c = (
  c.requires,
  omega arith,
  (λ said says building first. reached_first said c.args.first.placements.items first),
  (λ said says. each_of_none (λ _. false) said place.Placement c.args.found.now),
)

pub levels-preserved : goal.levels-preserved
levels-preserved c =
    let items = c.levels.chain.placements.items in
    let new = c.climb.new.chain.placements.items in
    let grows = c.in_ok-climb.ensures.grown in
    let end : length c.as_slice-end.result.now ≡ length items =
    ap length c.as_slice-end.ensures.value in (
      c.in_ok-climb.ensures.seen,
      (let grown = grown_length items new grows in omega arith),
      (λ said says building first.
          subst (AreReached said (c.levels._level + 1) new) (sym end)
          (c.in_ok-climb.ensures.reached said says building c.levels._level
          (c.levels.invariant.2 said says building first))),
      (λ said says.
          subst (λ ns. FindsPlacements said ns c.args.found.now c.climb.new.found)
          (sym (ap (λ k. take k new) end ∙ grown_whole items new grows))
          (c.in_ok-climb.ensures.found said says c.args.found.now
          (c.levels.invariant.3 said says))),
    )

pub returns-clause-placements : goal.returns-clause-placements
returns-clause-placements c = λ said says building first n.
    let past = c.levels-test.false in
    let last = c.levels.auto._level-end in
    let at_end : c.levels._level ≡ last_level = omega arith in
    let reached =
    subst (λ k. AreReached said k c.levels.chain.placements.items c.levels.asked) at_end
    (c.levels.invariant.2 said says building first) in
    (reached.sound n, reached.complete n)

pub returns-clause-found : goal.returns-clause-found
returns-clause-found c = λ said says.
    subst (λ ns. FindsPlacements said ns c.args.found.now c.see_from.new.found)
    c.as_slice.ensures.value
    (c.in_ok-see_from.ensures said says c.args.found.now
    (subst
    (λ ns. FindsPlacements said (take c.levels.asked ns) c.args.found.now c.levels.found)
    (sym c.as_slice.ensures.value) (c.levels.invariant.3 said says)))
