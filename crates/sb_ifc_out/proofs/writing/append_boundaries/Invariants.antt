-- The lines of the boundaries so far stand there; the last of them and the names of a space are at hand.
use Rattle.std.proofs.Common.{◌≡◌, ◌++◌, take}
use Rattle.sb_ifc_out.specs.Numbers.{last_line}
use Rattle.sb_ifc_out.specs.IfcText.{lines_from}
use Rattle.sb_ifc_out.specs.Steps.{AreKept}
use Rattle.sb_ifc_out.proofs.writing.append_boundaries.Given as goal

abbrev pub invariant-loop-index : goal.invariant-loop-index
invariant-loop-index l =
    (l.text ≡ l.initial.text
    ++ lines_from l.model (last_line l.model l.greatest l.bounds) l.greatest 1 (take l.index l.bounds))
    × ((l.before ≡ last_line l.model l.greatest l.bounds l.index) × AreKept l.model l.names)
