use Rattle.std.proofs.Common.{◌≡◌, true, map, take}
use Rattle.std.specs.List.{list_all}
use Rattle.sb_fraction.specs.Plane.{is_plan_point}
use Rattle.sb_solid.specs.Judged.{seen_at}
use Rattle.sb_solid.proofs.base.seen_points.Given as goal

abbrev pub invariant-points : goal.invariant-points
invariant-points l =
    (l.all ≡ map (seen_at l.view l.anchors) (take l.point-index l.points))
    × (list_all is_plan_point l.all ≡ true)
