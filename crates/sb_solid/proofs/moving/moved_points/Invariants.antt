use Rattle.std.proofs.Common.{◌≡◌, true, map, take}
use Rattle.std.specs.List.{list_all}
use Rattle.sb_fraction.specs.Plane.{is_plan_point}
use Rattle.theory_shifts.specs.Shifts.{moved}
use Rattle.sb_solid.specs.Moving.{steps_at, in_plan}
use Rattle.sb_solid.proofs.moving.moved_points.Given as goal

abbrev pub invariant-points : goal.invariant-points
invariant-points l =
    (l.all ≡ map (moved (in_plan (steps_at l.steps))) (take l.point-index l.points))
    × (list_all is_plan_point l.all ≡ true)
