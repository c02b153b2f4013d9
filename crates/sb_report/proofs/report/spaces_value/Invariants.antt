-- The numbers of the spaces so far have been built.
use Rattle.std.proofs.Common.{◌≡◌, take, map}
use Rattle.serde_json.specs.View.{view}
use Rattle.sb_report.specs.Entries.{count}
use Rattle.sb_report.proofs.report.spaces_value.Given as goal

abbrev pub invariant-loop-space : goal.invariant-loop-space
invariant-loop-space l =
    map view l.values.items ≡ map (λ s. count s.number) (take l.space-index l.space-items)
