use Rattle.std.proofs.Common.{◌≡◌, true, take}
use Rattle.std.specs.List.{list_all}
use Rattle.sb_fraction.specs.Plane.{is_plan_point}
use Rattle.theory_shifts.specs.Shifts.{moved_loops}
use Rattle.sb_solid.specs.Moving.{steps_at, in_plan}
use Rattle.sb_solid.proofs.moving.moved_loops.Given as goal

abbrev pub invariant-loops : goal.invariant-loops
invariant-loops l =
    (l.all ≡ moved_loops (in_plan (steps_at l.steps)) (take l.points-index l.points-items))
    × (list_all (list_all is_plan_point) l.all ≡ true)
