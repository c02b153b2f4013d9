-- One opening more.
use Rattle.std.proofs.Common.{zero-add}
use Rattle.sb_demo.specs.Blocks.{opening}
use Rattle.sb_demo.proofs.Ranges.{next_item}
use Rattle.sb_demo.proofs.blocks.push_openings.Goals as goal

pub loop-i-preserved : goal.loop-i-preserved
loop-i-preserved c =
    next_item (opening c.args.n) 0 c.loop-i.i c.loop-i.i _ _ _ _ (zero-add c.loop-i.i)
    c.loop-i.invariant c.opening.ensures c.in_ok-push.ensures.ok
