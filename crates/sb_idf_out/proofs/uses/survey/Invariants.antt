-- The materials, the constructions and the numbers are those of the boundaries so far.
use Rattle.std.proofs.Common.{◌≡◌, [], take}
use Rattle.sb_idf_out.specs.Steps.Uses.{AreUses, materials_after, constructions_after, numbers_used}
use Rattle.sb_idf_out.proofs.uses.survey.Given as goal

abbrev pub invariant-bounds : goal.invariant-bounds
invariant-bounds l =
    AreUses l.model (materials_after l.model [] (take l.boundary-index l.bounds))
    (constructions_after l.model [] [] (take l.boundary-index l.bounds)) l.uses
    × (l.numbers.items ≡ numbers_used l.model [] [] (take l.boundary-index l.bounds))
