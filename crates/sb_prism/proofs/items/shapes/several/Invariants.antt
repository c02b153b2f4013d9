use Rattle.std.proofs.Common.{◌≡◌, List, take}
use Rattle.sb_place.specs.declared.sight.Seen.{Seen}
use Rattle.sb_prism.specs.Shapes.{Solid, AreEach, IsSolid}
use Rattle.sb_prism.proofs.Solids.ShapesAreRead.{solids_faults}
use Rattle.sb_prism.proofs.items.shapes.several.Given as goal

abbrev pub invariant-numbers : goal.invariant-numbers
invariant-numbers l =
    (solids : List (Seen Solid)) × AreEach (IsSolid l.file) (take l.number-index l.numbers) solids
    × (l.faults ≡ solids_faults solids)
