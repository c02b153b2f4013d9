use Rattle.std.proofs.Common.{IsTrue}
use Rattle.std.specs.List.{list_all}
use Rattle.sb_model.specs.Building.{is_shift}
use Rattle.tests_frame.proofs.outlines.spaces.Given as goal

abbrev pub invariant-outlines : goal.invariant-outlines
invariant-outlines l = IsTrue (list_all (λ s. is_shift s.frame.shift) l.list)
