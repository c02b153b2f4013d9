use Rattle.std.proofs.Common.{take}
use Rattle.std.specs.Ordering.{nat_cmp}
use Rattle.std.specs.BTreeMap.{get}
use Rattle.sb_profile.specs.Steps.Read.{made_of}
use Rattle.sb_building.specs.Layerings.{AreMade}
use Rattle.sb_building.specs.Steps.Layers.{LayersAreJudged}
use Rattle.sb_building.proofs.judging.layer_faults.judge_layers.Given as goal

abbrev pub invariant-elements : goal.invariant-elements
invariant-elements l =
    AreMade l.file l.unit (get nat_cmp l.known)
    × LayersAreJudged l.file l.unit (made_of l.materials l.types) (take l.element-index l.elements)
    l.initial.found l.found
