-- The block before the lower end begins with an item that passes, and the one at the upper end does
-- not.
use Rattle.std.proofs.Common.{◌≡◌, ◌<◌, ◌≤◌, ◌-◌, length, false, get_or}
use Rattle.std.specs.Bool.{IsTrue}
use Rattle.sb_blocks.specs.Blocks.{block_at}
use Rattle.sb_blocks.proofs.search.blocks_passed.Given as goal

abbrev pub invariant-halves : goal.invariant-halves
invariant-halves g l =
    record {
      in_order : l.low ≤ l.high;
      within : l.high ≤ length l.blocks;
      before : 0 < l.low
          → IsTrue (g.T.Test.passes l.test (get_or (block_at l.blocks (l.low - 1)) 0 0));
      behind : l.high < length l.blocks
          → g.T.Test.passes l.test (get_or (block_at l.blocks l.high) 0 0) ≡ false;
    }

abbrev pub decreases-halves : goal.decreases-halves
decreases-halves g l = l.high - l.low
