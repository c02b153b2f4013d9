use Rattle.std.proofs.Common.{◌≡◌, ◌≤◌, ◌+◌, ◌++◌, drop}
use Rattle.sb_model.specs.Bands.{greatest_total}
use Rattle.sb_model.specs.Labels.{total_of}
use Rattle.sb_layers.specs.Parts.{parts_of}
use Rattle.sb_layers.proofs.parts.parts.Given as goal

-- the items so far go before those of the layers that are left
abbrev pub invariant-layers : goal.invariant-layers
invariant-layers l =
    (parts_of l.way 0 l.layer-items
    ≡ l.items ++ parts_of l.way l.before (drop l.layer-index l.layer-items))
    × (l.before + total_of (drop l.layer-index l.layer-items) ≤ greatest_total)
