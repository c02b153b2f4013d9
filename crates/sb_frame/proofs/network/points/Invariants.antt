-- The points of the crossings so far.
use Rattle.std.proofs.Common.{◌≡◌, map, take}
use Rattle.sb_frame.proofs.network.points.Given as goal

abbrev pub invariant-crossings : goal.invariant-crossings
invariant-crossings l = l.points ≡ map (λ c. c.point) (take l.crossing-index l.list)
