-- Lists of two lengths are not the same; else item by item.
use Rattle.std.proofs.Common.{sym}
use Rattle.sb_join.proofs.SameItems.{other_length}
use Rattle.sb_join.proofs.alike.are_same_items.Goals as goal

pub returns-then-a-b : goal.returns-then-a-b
returns-then-a-b c = sym (other_length _ _ c.if-a-b.true)
