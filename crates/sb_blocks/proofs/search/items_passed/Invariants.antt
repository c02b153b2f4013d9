-- The item before the lower end passes, and the one at the upper end does not.
use Rattle.std.proofs.Common.{◌≡◌, ◌<◌, ◌≤◌, ◌-◌, length, false, get_or}
use Rattle.std.specs.Bool.{IsTrue}
use Rattle.sb_blocks.proofs.search.items_passed.Given as goal

abbrev pub invariant-halves : goal.invariant-halves
invariant-halves g l =
    record {
      in_order : l.low ≤ l.high;
      within : l.high ≤ length l.items;
      before : 0 < l.low → IsTrue (g.T.Test.passes l.test (get_or l.items (l.low - 1) 0));
      behind : l.high < length l.items → g.T.Test.passes l.test (get_or l.items l.high 0) ≡ false;
    }

abbrev pub decreases-halves : goal.decreases-halves
decreases-halves g l = l.high - l.low
