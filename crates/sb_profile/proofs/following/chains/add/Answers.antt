use Rattle.std.proofs.Common.{sym, ◌∙◌}
use Rattle.sb_profile.proofs.Followed.ChainsAreReached.{found_there, found_behind}
use Rattle.sb_profile.proofs.following.chains.add.Goals as goal

pub returns-then-contains : goal.returns-then-contains
returns-then-contains c =
    found_there c.args.number c.args.chain.now c.requires
    (sym c.contains.ensures ∙ c.if-contains.true)

pub returns : goal.returns
returns c =
    found_behind c.args.number c.args.chain.now
    (record { placements = c.push.new.self; seen = c.put.new.numbers }) c.requires
    c.in_ok-push.ensures.items c.in_ok-put.ensures
