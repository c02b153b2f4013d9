-- The layers of the members so far, which are layers all.
use Rattle.sb_profile.specs.Contents.{Contents, Says}
use Rattle.sb_building.proofs.Known.LayersOneByOne.{AreLayersTo}
use Rattle.sb_building.proofs.materials.layers_from.Given as goal

abbrev pub invariant-members : goal.invariant-members
invariant-members l = (c : Contents) → Says l.file c → AreLayersTo c l.unit l.members l.place l.layers
