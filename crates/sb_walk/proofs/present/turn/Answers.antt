-- The number is taken out or put in.
use Rattle.sb_walk.proofs.TurnedNumbers.{turned_out, turned_in}
use Rattle.sb_walk.proofs.present.turn.Goals as goal

pub returns-in-Ok : goal.returns-in-Ok
returns-in-Ok c =
    turned_out c.args.number c.as_slice.result.now c.args.list.now.items c.remove.new.self.items
    c.as_slice.ensures.value c.requires c.in-Ok.at c.in-Ok.ensures.there c.remove.ensures.items

pub returns-in_ok-insert-in-Err : goal.returns-in_ok-insert-in-Err
returns-in_ok-insert-in-Err c =
    turned_in c.args.number c.as_slice.result.now c.args.list.now.items c.insert.new.self.items
    c.as_slice.ensures.value c.requires c.in-Err.at c.in-Err.ensures.absent
    c.in_ok-insert-in-Err.ensures.items
