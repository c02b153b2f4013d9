-- Two more cells for a space, and no more at the end.
use Rattle.std.proofs.Common.{rules, ◌≡◌, Some}
use Rattle.sb_model.specs.Surfaces.Faces.{space_numbered}
use Rattle.sb_walk.specs.Strips.{are_made}
use Rattle.sb_walk.proofs.CellsOfGaps.CellsListed.{two_more, no_more}
use Rattle.sb_walk.proofs.cells.cells_of_spaces.Goals as goal

pub numbers-preserved-in_ok-push-2 : goal.numbers-preserved-in_ok-push-2
numbers-preserved-in_ok-push-2 c =
    let found
    : space_numbered c.args.model.now c.in-Some.number.now ≡ Some c.in-Some-space.space.now =
    search rules in
    two_more c.args.model.now
    (are_made c.args.model.now c.args.strip.now c.args.present.now c.args.down.now c.args.up.now)
    c.args.present.now c.numbers.rest.now c.in-Some.number.now c.in-Some.others.now
    c.in-Some.ensures.cases.0 c.in-Some-space.space.now found c.in_ok-bottom.bottom
    c.in_ok-top.top c.in_ok-bottom.ensures c.in_ok-top.ensures c.numbers.list.items
    c.push.new.self.items c.push-in-Some-space.new.self.items c.in_ok-push.ensures.items
    c.in_ok-push-2.ensures.items c.numbers.invariant

pub returns : goal.returns
returns c =
    no_more c.args.model.now
    (are_made c.args.model.now c.args.strip.now c.args.present.now c.args.down.now c.args.up.now)
    c.args.present.now c.numbers.rest.now c.in_default.ensures.cases c.numbers.list.items
    c.numbers.invariant
