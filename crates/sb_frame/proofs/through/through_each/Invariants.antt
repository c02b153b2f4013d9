-- The places for the crossings so far.
use Rattle.std.proofs.Common.{◌≡◌, map, take}
use Rattle.sb_fraction.specs.Spots.{spot_of}
use Rattle.sb_frame.specs.Network.{plan_edges_of}
use Rattle.sb_frame.specs.Through.{places_through}
use Rattle.sb_frame.proofs.through.through_each.Given as goal

abbrev pub invariant-crossings : goal.invariant-crossings
invariant-crossings l =
    l.places
    ≡ map (λ c. places_through (plan_edges_of l.edges) (spot_of c.point)) (take l.crossing-index l.list)
