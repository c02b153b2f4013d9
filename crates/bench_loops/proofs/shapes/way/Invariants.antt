-- The first points are in range.
use Rattle.std.specs.Bool.{IsTrue}
use Rattle.std.specs.List.{list_all}
use Rattle.sb_fraction.specs.Plane.{is_plan_point}
use Rattle.bench_loops.proofs.shapes.way.Given as goal

abbrev pub invariant-there : goal.invariant-there
invariant-there l = IsTrue (list_all is_plan_point l.points)

abbrev pub invariant-back : goal.invariant-back
invariant-back l = IsTrue (list_all is_plan_point l.points)
