-- What stands there is the text as it was and the objects so far.
use Rattle.std.proofs.Common.{◌≡◌, ◌++◌, take}
use Rattle.sb_idf_out.specs.Steps.Surfaces.{objects_by}
use Rattle.sb_idf_out.proofs.text.append_boundaries.Given as goal

abbrev pub invariant-bounds : goal.invariant-bounds
invariant-bounds l =
    l.text.items ≡ l.initial.text.items ++ objects_by l.model 1 (take l.index l.numbers) (take l.index l.bounds)
