use Rattle.std.proofs.Common.{◌≡◌, true, map, take}
use Rattle.std.specs.List.{list_all}
use Rattle.sb_solid.specs.Steps.{vector_at}
use Rattle.sb_solid.specs.Turned.{turned_point, spot_vector, is_turned}
use Rattle.sb_solid.proofs.turning.turned_loops.Given as goal

abbrev pub invariant-loops : goal.invariant-loops
invariant-loops l =
    (map (map vector_at) l.all
    ≡ map (map (λ s. turned_point l.turn l.frame (spot_vector s))) (take l.points-index l.loops))
    × (list_all (list_all (λ s. is_turned l.turn l.frame (spot_vector s))) (take l.points-index l.loops) ≡ true)
