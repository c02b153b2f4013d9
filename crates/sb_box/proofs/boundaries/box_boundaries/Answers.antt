-- The pushed boundaries are those of the box, in order.
use Rattle.std.proofs.Common.{FitsSigned, w32, rules}
use Rattle.std.proofs.lemmas.Int.{to_z-of_z}
use Rattle.sb_box.proofs.BoxListIsPushed.{box_pushed}
use Rattle.sb_box.proofs.BoxListIsSound.{box_list_is_sound, box_in_order}
use Rattle.sb_box.proofs.boundaries.box_boundaries.Goals as goal

pub returns : goal.returns
returns c =
    let x = c.x-x.ensures in
    let y = c.y-y.ensures in
    let z = c.z-z.ensures in
    let low : FitsSigned w32 c.z-z.result.low = search rules in
    let high : FitsSigned w32 c.z-z.result.high = search rules in
    let list = box_pushed c.args.space c.args.extent.now _ _ _ _ _ _ x.low x.high y.low y.high z.low
    z.high
    _ _ _ _ _ _ _ _ _ _ _ c.new-list.ensures c.in_ok-push.ensures.ok c.in_ok-push-2.ensures.ok
    c.level_boundary.ensures (simp to_z-of_z at c.below.ensures)
    c.level_boundary-2.ensures (simp to_z-of_z at c.above.ensures)
    c.in_ok-push_side.ensures c.in_ok-push_side-2.ensures c.in_ok-push_side-3.ensures
    c.in_ok-push_side-4.ensures in
    record {
      list = list;
      sound = λ m is. box_list_is_sound c.args.space c.args.extent.now _ list m is;
      in_order = box_in_order c.args.space c.args.extent.now _ list;
    }
