use Rattle.std.proofs.Common.{IsTrue}
use Rattle.std.specs.List.{list_all}
use Rattle.sb_model.specs.Building.{is_shift}
use Rattle.tests_model.proofs.building.spaces.Given as goal

abbrev pub invariant-numbers : goal.invariant-numbers
invariant-numbers l = IsTrue (list_all (λ s. is_shift s.frame.shift) l.list)
