-- What stands there is the text as it was and the names so far.
use Rattle.std.proofs.Common.{◌≡◌, ◌++◌, take, codes, decimal}
use Rattle.std.specs.List.{flat_map}
use Rattle.sb_idf_out.proofs.uses.append_materials.Given as goal

abbrev pub invariant-materials : goal.invariant-materials
invariant-materials l =
    l.text ≡ l.initial.text ++ flat_map (λ k. codes ",M_" ++ decimal k) (take l.number-index l.materials)
