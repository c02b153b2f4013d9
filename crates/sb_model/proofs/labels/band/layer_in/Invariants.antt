use Rattle.std.proofs.Common.{◌≡◌, ◌≤◌, ◌+◌, drop, length}
use Rattle.sb_model.specs.Labels.{total_of, layer_from}
use Rattle.sb_model.specs.Bands.{greatest_total}
use Rattle.sb_model.proofs.labels.band.layer_in.Given as goal

abbrev pub invariant-layers : goal.invariant-layers
invariant-layers l =
    (layer_from l.at l.scale 0 l.layer-items ≡ layer_from l.at l.scale l.before (drop l.layer-index l.layer-items))
    × ((l.left + l.layer-index ≡ length l.layer-items)
    × ((l.before + total_of (drop l.layer-index l.layer-items) ≡ total_of l.layer-items)
    × (total_of l.layer-items ≤ greatest_total)))
