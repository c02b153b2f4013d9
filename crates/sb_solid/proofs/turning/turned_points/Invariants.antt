use Rattle.std.proofs.Common.{◌≡◌, true, map, take}
use Rattle.std.specs.List.{list_all}
use Rattle.sb_solid.specs.Steps.{vector_at}
use Rattle.sb_solid.specs.Turned.{turned_point, spot_vector, is_turned}
use Rattle.sb_solid.proofs.turning.turned_points.Given as goal

abbrev pub invariant-points : goal.invariant-points
invariant-points l =
    (map vector_at l.all ≡ map (λ s. turned_point l.turn l.frame (spot_vector s)) (take l.point-index l.points))
    × (list_all (λ s. is_turned l.turn l.frame (spot_vector s)) (take l.point-index l.points) ≡ true)
