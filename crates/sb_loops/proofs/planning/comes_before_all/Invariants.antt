-- It comes before the first ones.
use Rattle.std.proofs.Common.{◌≡◌, drop}
use Rattle.std.specs.List.{list_all}
use Rattle.theory_plans.specs.Loops.{comes_before}
use Rattle.sb_loops.proofs.planning.comes_before_all.Given as goal

abbrev pub invariant-loop-b : goal.invariant-loop-b
invariant-loop-b l =
    list_all (comes_before l.first) (drop l.b-index l.rest) ≡ list_all (comes_before l.first) l.rest
