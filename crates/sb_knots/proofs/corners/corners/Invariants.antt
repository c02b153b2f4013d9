use Rattle.std.proofs.Common.{◌≡◌, ◌++◌, drop}
use Rattle.theory_sweep.specs.Corners.{corners_of}
use Rattle.sb_knots.proofs.corners.corners.Given as goal

abbrev pub invariant-loops : goal.invariant-loops
invariant-loops l =
    l.list.items ++ corners_of (drop l.points-index l.points-items) ≡ corners_of l.points-items
