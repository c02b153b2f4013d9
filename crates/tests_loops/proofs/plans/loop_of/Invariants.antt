-- The first points are in range.
use Rattle.std.specs.Bool.{IsTrue}
use Rattle.std.specs.List.{list_all}
use Rattle.sb_fraction.specs.Plane.{is_plan_point}
use Rattle.tests_loops.proofs.plans.loop_of.Given as goal

abbrev pub invariant-loop-x : goal.invariant-loop-x
invariant-loop-x l = IsTrue (list_all is_plan_point l.points)
