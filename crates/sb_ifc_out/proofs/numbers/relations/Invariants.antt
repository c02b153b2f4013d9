-- The lines of the relations so far stand there, and the last of them is at hand.
use Rattle.std.proofs.Common.{◌≡◌, map}
use Rattle.std.specs.List.{range_with_len}
use Rattle.sb_model.specs.Building.{Building}
use Rattle.sb_ifc_out.specs.Numbers.{last_line}
use Rattle.sb_ifc_out.specs.Steps.{AreOutlines}
use Rattle.sb_ifc_out.proofs.numbers.relations.Given as goal

abbrev pub invariant-loop-index : goal.invariant-loop-index
invariant-loop-index l =
    (m : Building) → AreOutlines m l.bounds l.outlines
    → (l.relations ≡ map (last_line m l.greatest l.bounds) (range_with_len 1 l.index))
    × (l.last ≡ last_line m l.greatest l.bounds l.index)
