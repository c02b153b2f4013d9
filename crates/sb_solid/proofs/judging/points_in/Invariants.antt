use Rattle.std.proofs.Common.{◌≡◌, length, take}
use Rattle.theory_plans.specs.Plans.{corners_in}
use Rattle.sb_solid.specs.Judged.{counted}
use Rattle.sb_solid.proofs.judging.points_in.Given as goal

abbrev pub invariant-loops : goal.invariant-loops
invariant-loops l = l.count ≡ counted (length (corners_in (take l.points-index l.points-items)))
