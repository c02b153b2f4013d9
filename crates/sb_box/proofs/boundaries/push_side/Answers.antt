-- The pushed boundaries are those of the side, in order.
use Rattle.std.proofs.Common.{FitsSigned, w32, rules, ◌≡◌, ◌∙◌, sym}
use Rattle.std.proofs.lemmas.Int.{to_z-of_z}
use Rattle.sb_model.specs.declared.faces.face.FaceKind.TheVariants as kind
use Rattle.sb_box.specs.BoxList.{above}
use Rattle.sb_box.proofs.BoxListIsPushed.{one_pushed, two_pushed}
use Rattle.sb_box.proofs.boundaries.push_side.Goals as goal

pub returns-in_ok-push-2 : goal.returns-in_ok-push-2
returns-in_ok-push-2 c = λ ps are.
    let earth = c.up_to_ground-below_ground.ensures in
    let air = c.from_ground-above_ground.ensures in
    two_pushed c.args.space ps _ _ _ _ _ (kind.Side c.args.edge) _ _ _ _
    (sym c.is_cut.ensures ∙ c.if-is_cut.true) are
    (rw (earth.low, earth.high) at c.side_boundary.ensures) c.in_ok-push.ensures.ok
    (rw (air.low, air.high) at c.side_boundary-then-is_cut.ensures) c.in_ok-push-2.ensures.ok

pub returns-in_ok-push-3 : goal.returns-in_ok-push-3
returns-in_ok-push-3 c = λ ps are.
    let low : FitsSigned w32 c.args.up.now.low = search rules in
    let end : c.above.result ≡ above c.args.up.now.low = simp to_z-of_z at c.above.ensures in
    one_pushed c.args.space ps _ _ _ (kind.Side c.args.edge) _ _ _ _
    (sym c.is_cut.ensures ∙ c.if-is_cut.false) are
    (rw end at c.side_boundary-else-is_cut.ensures) c.in_ok-push-3.ensures.ok
