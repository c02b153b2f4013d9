-- The frames of the spaces so far have shifts in range.
use Rattle.std.proofs.Common.{IsTrue}
use Rattle.std.specs.List.{list_all}
use Rattle.sb_model.specs.Building.{is_shift}
use Rattle.tests_lists.proofs.generated.spaces_of.Given as goal

abbrev pub invariant-indices : goal.invariant-indices
invariant-indices l = IsTrue (list_all (λ s. is_shift s.frame.shift) l.list)
