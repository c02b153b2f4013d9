use Rattle.std.proofs.Common.{IsTrue}
use Rattle.std.specs.List.{list_all}
use Rattle.sb_model.specs.Building.{is_layering}
use Rattle.tests_frame.proofs.outlines.elements.Given as goal

abbrev pub invariant-outlines : goal.invariant-outlines
invariant-outlines l = IsTrue (list_all (λ e. is_layering e.layering) l.list)
