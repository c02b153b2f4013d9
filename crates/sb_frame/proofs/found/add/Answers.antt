-- The point stands there, or is put in at its place.
use Rattle.sb_frame.proofs.Meetings.PutInOrder.{already_there, put_there}
use Rattle.sb_frame.proofs.found.add.Goals as goal

pub returns-in-Ok : goal.returns-in-Ok
returns-in-Ok c =
    already_there c.args.crossing c.args.found.now.items c.deref.result.now c.in-Ok.field-0
    c.deref.ensures.value c.requires c.in-Ok.ensures.bound c.in-Ok.ensures.place

pub returns-in_ok-insert-in-Err : goal.returns-in_ok-insert-in-Err
returns-in_ok-insert-in-Err c =
    put_there c.args.crossing c.args.found.now.items c.deref.result.now c.insert.new.self.items
    c.in-Err.at c.deref.ensures.value c.requires c.in-Err.ensures.bound c.in-Err.ensures.place
    c.in_ok-insert-in-Err.ensures.items
