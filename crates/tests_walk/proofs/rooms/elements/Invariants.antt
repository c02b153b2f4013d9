-- Each element so far has layers in range, or none.
use Rattle.std.proofs.Common.{IsTrue}
use Rattle.std.specs.List.{list_all}
use Rattle.sb_model.specs.Building.{is_layering}
use Rattle.tests_walk.proofs.rooms.elements.Given as goal

abbrev pub invariant-solids : goal.invariant-solids
invariant-solids l = IsTrue (list_all (λ s. is_layering s.layering) l.list)
