use Rattle.std.proofs.Common.{◌≡◌, ◌≤◌, ◌+◌, drop}
use Rattle.sb_model.specs.Labels.{total_of}
use Rattle.sb_model.specs.Bands.{greatest_total}
use Rattle.sb_model.proofs.labels.band.total_thickness.Given as goal

abbrev pub invariant-layers : goal.invariant-layers
invariant-layers l =
    (l.total + total_of (drop l.layer-index l.layer-items) ≡ total_of l.layer-items)
    × (total_of l.layer-items ≤ greatest_total)
