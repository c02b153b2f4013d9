use Rattle.std.proofs.Common.{◌≡◌, length}
use Rattle.sb_schema.specs.Forms.{each}
use Rattle.sb_schema.proofs.ItemsGiveLists.{prefixed}
use Rattle.sb_schema.proofs.lists.all.Given as goal

abbrev pub invariant-items : goal.invariant-items
invariant-items g l =
    each g.T.Item.form l.initial.items ≡ prefixed l.list (each g.T.Item.form l.items)

abbrev pub decreases-items : goal.decreases-items
decreases-items g l = length l.items
