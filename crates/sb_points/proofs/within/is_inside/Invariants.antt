use Rattle.std.proofs.Common.{◌≡◌, false, drop}
use Rattle.sb_fraction.specs.Spots.{spot_of}
use Rattle.theory_plans.specs.LoopEdges.{edges_of}
use Rattle.sb_points.specs.Places.{parity_after}
use Rattle.sb_points.proofs.within.is_inside.Given as goal

abbrev pub invariant-loops : goal.invariant-loops
invariant-loops l =
    parity_after (spot_of l.p) false (edges_of l.points-items)
    ≡ parity_after (spot_of l.p) l.odd (edges_of (drop l.points-index l.points-items))
