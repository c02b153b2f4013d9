use Rattle.std.proofs.Common.{slice_get}
use Rattle.sb_schema.proofs.ItemsGiveLists.{given_items}
use Rattle.sb_schema.proofs.lists.items.Goals as goal

pub returns-clause-value : goal.returns-clause-value
returns-clause-value c =
    given_items (slice_get c.args.left.now 0) c.list.result c.list.ensures.some c.list.ensures.none
