-- The first loops begin so.
use Rattle.std.proofs.Common.{◌≡◌, drop}
use Rattle.std.specs.List.{list_all}
use Rattle.theory_plans.specs.Loops.{is_least_first}
use Rattle.sb_loops.proofs.planning.are_least_first.Given as goal

abbrev pub invariant-loop-points : goal.invariant-loop-points
invariant-loop-points l =
    list_all is_least_first (drop l.points-index l.points-items)
    ≡ list_all is_least_first l.points-items
