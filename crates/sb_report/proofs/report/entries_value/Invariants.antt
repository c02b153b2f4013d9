-- The entries of the boundaries so far have been built.
use Rattle.std.proofs.Common.{◌≡◌, take, map}
use Rattle.serde_json.specs.View.{view}
use Rattle.sb_report.specs.Report.{entries_from}
use Rattle.sb_report.proofs.report.entries_value.Given as goal

abbrev pub invariant-loop-index : goal.invariant-loop-index
invariant-loop-index l = map view l.values.items ≡ entries_from l.model 1 (take l.index l.bounds)
