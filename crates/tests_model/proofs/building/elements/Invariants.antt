use Rattle.std.proofs.Common.{IsTrue}
use Rattle.std.specs.List.{list_all}
use Rattle.sb_model.specs.Building.{is_layering}
use Rattle.tests_model.proofs.building.elements.Given as goal

abbrev pub invariant-numbers : goal.invariant-numbers
invariant-numbers l = IsTrue (list_all (λ e. is_layering e.layering) l.list)
