-- The corners of the boundaries so far are kept.
use Rattle.std.proofs.Common.{take}
use Rattle.sb_ifc_out.specs.Steps.{AreOutlines}
use Rattle.sb_ifc_out.proofs.numbers.outlines.Given as goal

abbrev pub invariant-loop-index : goal.invariant-loop-index
invariant-loop-index l = AreOutlines l.model (take l.index l.bounds) l.outlines
