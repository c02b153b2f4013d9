-- One room more.
use Rattle.std.proofs.Common.{zero-add}
use Rattle.sb_demo.specs.Blocks.{room}
use Rattle.sb_demo.proofs.Ranges.{next_item}
use Rattle.sb_demo.proofs.blocks.push_rooms.Goals as goal

pub loop-i-preserved : goal.loop-i-preserved
loop-i-preserved c =
    next_item (room c.args.n) 0 c.loop-i.i c.loop-i.i _ _ _ _ (zero-add c.loop-i.i)
    c.loop-i.invariant c.room.ensures c.in_ok-push.ensures.ok
