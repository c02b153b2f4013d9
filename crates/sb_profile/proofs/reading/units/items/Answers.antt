use Rattle.std.proofs.Common.{slice_get}
use Rattle.sb_profile.proofs.TablesOfFiles.UnitsAreCounted.{given_items}
use Rattle.sb_profile.proofs.reading.units.items.Goals as goal

pub returns : goal.returns
returns c =
    given_items (slice_get c.args.parameters 0) c.list.result c.list.ensures.some c.list.ensures.none
