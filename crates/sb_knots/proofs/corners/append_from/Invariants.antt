use Rattle.std.proofs.Common.{◌≡◌, ◌++◌, drop, IsTrue}
use Rattle.sb_fraction.specs.Plane.{is_plan_point}
use Rattle.theory_sweep.specs.Corners.{corners_on}
use Rattle.sb_knots.proofs.corners.append_from.Given as goal

abbrev pub invariant-points : goal.invariant-points
invariant-points l = record {
  corners : l.list.items ++ corners_on l.before l.at (drop l.after-index l.others) l.fn.first
      ≡ l.initial.list.items ++ corners_on l.fn.last l.fn.first l.others l.fn.first;
  before_in : IsTrue (is_plan_point l.before);
  at_in : IsTrue (is_plan_point l.at);
}
