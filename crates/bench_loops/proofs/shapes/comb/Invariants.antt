-- The first points are in range.
use Rattle.std.specs.Bool.{IsTrue}
use Rattle.std.specs.List.{list_all}
use Rattle.sb_fraction.specs.Plane.{is_plan_point}
use Rattle.bench_loops.proofs.shapes.comb.Given as goal

abbrev pub invariant-teeth : goal.invariant-teeth
invariant-teeth l = IsTrue (list_all is_plan_point l.points)
