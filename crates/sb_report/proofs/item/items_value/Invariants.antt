-- The data of the items so far have been built.
use Rattle.std.proofs.Common.{◌≡◌, take, map}
use Rattle.serde_json.specs.View.{view}
use Rattle.sb_report.specs.Entries.{item_data}
use Rattle.sb_report.proofs.item.items_value.Given as goal

abbrev pub invariant-loop-item : goal.invariant-loop-item
invariant-loop-item l =
    map view l.values.items ≡ map (item_data l.model) (take l.item-index l.item-items)
