use Rattle.std.proofs.Common.{◌≡◌, true, map, take}
use Rattle.std.specs.List.{list_all}
use Rattle.sb_fraction.specs.Plane.{is_plan_point}
use Rattle.sb_solid.specs.Judged.{seen_at}
use Rattle.sb_solid.proofs.base.seen_loops.Given as goal

abbrev pub invariant-loops : goal.invariant-loops
invariant-loops l =
    (l.all ≡ map (map (seen_at l.view l.anchors)) (take l.points-index l.loops))
    × (list_all (list_all is_plan_point) l.all ≡ true)
