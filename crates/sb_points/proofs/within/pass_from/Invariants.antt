use Rattle.std.proofs.Common.{◌≡◌, IsTrue, drop}
use Rattle.sb_fraction.specs.Plane.{is_plan_point}
use Rattle.sb_fraction.specs.Spots.{spot_of}
use Rattle.theory_plans.specs.LoopEdges.{edges_back}
use Rattle.sb_points.specs.Places.{parity_after}
use Rattle.sb_points.proofs.within.pass_from.Given as goal

abbrev pub invariant-points : goal.invariant-points
invariant-points l =
    IsTrue (is_plan_point l.last)
    × (parity_after (spot_of l.p) l.fn.odd (edges_back l.fn.first l.rest l.fn.first)
    ≡ parity_after (spot_of l.p) l.odd (edges_back l.last (drop l.point-index l.rest) l.fn.first))
