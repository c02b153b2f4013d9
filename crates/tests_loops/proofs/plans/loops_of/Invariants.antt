-- The first loops are in range.
use Rattle.std.specs.Bool.{IsTrue}
use Rattle.std.specs.List.{list_all}
use Rattle.sb_fraction.specs.Plane.{is_plan_point}
use Rattle.tests_loops.proofs.plans.loops_of.Given as goal

abbrev pub invariant-loop-row : goal.invariant-loop-row
invariant-loop-row l = IsTrue (list_all (list_all is_plan_point) l.loops)
