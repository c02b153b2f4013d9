-- Position after position.
use Rattle.std.specs.Int.{w32}
use Rattle.std.proofs.Common.{rules, FitsSigned, ◌∙◌, sym}
use Rattle.std.proofs.lemmas.Int.{to_z-of_z}
use Rattle.sb_model.specs.Walks.{course_of}
use Rattle.sb_walk.specs.Ways.{normal_of}
use Rattle.sb_walk.specs.Behind.{read_on}
use Rattle.sb_walk.proofs.WalksRead.ReadAlong.{passed_here, ended_here, ended_at_last}
use Rattle.sb_walk.proofs.reading.walk_from.Goals as goal

pub returns-in_default-item_of : goal.returns-in_default-item_of
returns-in_default-item_of c =
    let fits_from : FitsSigned w32 c.args.from = search rules in
    let fits_at : FitsSigned w32 c.positions.at = search rules in
    let fits_next : FitsSigned w32 c.in-Some.next.now = search rules in
    let ended = simp (c.positions.at-is, to_z-of_z) at c.ended.ensures in
    let over = simp (c.positions.at-is, to_z-of_z) at c.item_of.ensures in
    let behind = simp to_z-of_z at c.label_behind-behind.ensures in
    let before = simp (c.positions.at-is, to_z-of_z) at c.positions.invariant in
    ended_here c.args.model.now c.requires.no_layers c.args.way c.args.present.now c.args.from
    c.positions.items c.positions.at c.positions.label c.positions.rest.now
    (read_on c.args.model.now (normal_of c.args.way) c.args.present.now c.args.from
    c.args.positions.now) before c.in-Some.next.now c.in-Some.others.now
    c.in-Some.ensures.cases.0 c.label_behind-behind.result behind c.are_one.result c.are_one.ensures
    c.if-not-are_one.true (sym over ∙ c.in_default-item_of.is) (course_of c.ended.result) ended

pub positions-preserved-in_ok-push : goal.positions-preserved-in_ok-push
positions-preserved-in_ok-push c =
    let fits_from : FitsSigned w32 c.args.from = search rules in
    let fits_at : FitsSigned w32 c.positions.at = search rules in
    let fits_next : FitsSigned w32 c.in-Some.next.now = search rules in
    let over = simp (c.positions.at-is, to_z-of_z) at c.item_of.ensures in
    let behind = simp to_z-of_z at c.label_behind-behind.ensures in
    let before = simp (c.positions.at-is, to_z-of_z) at c.positions.invariant in
    simp to_z-of_z
    (passed_here c.args.model.now c.requires.no_layers c.args.way c.args.present.now c.args.from
    c.positions.items c.positions.at c.positions.label c.positions.rest.now
    (read_on c.args.model.now (normal_of c.args.way) c.args.present.now c.args.from
    c.args.positions.now) before c.in-Some.next.now c.in-Some.others.now
    c.in-Some.ensures.cases.0 c.label_behind-behind.result behind c.are_one.result c.are_one.ensures
    c.if-not-are_one.true c.in-Some-item_of.item (sym over ∙ c.in-Some-item_of.is) c.push.new.self
    c.in_ok-push.ensures.ok)

pub returns : goal.returns
returns c =
    let fits_from : FitsSigned w32 c.args.from = search rules in
    let fits_at : FitsSigned w32 c.positions.at = search rules in
    let ended = simp (c.positions.at-is, to_z-of_z) at c.ended-2.ensures in
    let before = simp (c.positions.at-is, to_z-of_z) at c.positions.invariant in
    ended_at_last c.args.model.now c.requires.no_layers c.args.way c.args.present.now c.args.from
    c.positions.items c.positions.at c.positions.label c.positions.rest.now
    (read_on c.args.model.now (normal_of c.args.way) c.args.present.now c.args.from
    c.args.positions.now) before c.in_default.ensures.cases (course_of c.ended-2.result) ended
