use Rattle.std.proofs.Common.{◌≡◌, take}
use Rattle.sb_building.proofs.made.copied.Given as goal

abbrev pub invariant-layers : goal.invariant-layers
invariant-layers l = l.copy ≡ take l.layer-index l.layers
