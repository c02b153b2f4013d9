-- One wall more.
use Rattle.std.proofs.Common.{zero-add}
use Rattle.sb_demo.specs.Blocks.{cross_wall}
use Rattle.sb_demo.proofs.Ranges.{next_item}
use Rattle.sb_demo.proofs.blocks.push_cross_walls.Goals as goal

pub loop-j-preserved : goal.loop-j-preserved
loop-j-preserved c =
    next_item cross_wall 0 c.loop-j.j c.loop-j.j _ _ _ _ (zero-add c.loop-j.j)
    c.loop-j.invariant c.cross_wall.ensures c.in_ok-push.ensures.ok
