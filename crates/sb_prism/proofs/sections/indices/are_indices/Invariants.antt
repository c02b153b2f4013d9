use Rattle.std.proofs.Common.{◌≡◌, true, take}
use Rattle.std.specs.List.{list_all}
use Rattle.sb_prism.specs.Faults.{is_index}
use Rattle.sb_prism.proofs.sections.indices.are_indices.Given as goal

abbrev pub invariant-loop-text : goal.invariant-loop-text
invariant-loop-text l = list_all (is_index l.count) (take l.text-index l.texts) ≡ true
