-- The layerings of the elements so far are in range.
use Rattle.std.proofs.Common.{IsTrue}
use Rattle.std.specs.List.{list_all}
use Rattle.sb_model.specs.Building.{is_layering}
use Rattle.bench_idf.proofs.models.elements.Given as goal

abbrev pub invariant-indices : goal.invariant-indices
invariant-indices l = IsTrue (list_all (λ e. is_layering e.layering) l.list)
