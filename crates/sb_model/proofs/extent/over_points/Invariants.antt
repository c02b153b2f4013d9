use Rattle.std.proofs.Common.{◌≡◌, ◌≤◌, drop, unsigned_abs}
use Rattle.std.specs.Int.{int_min, int_max}
use Rattle.std.specs.List.{fold}
use Rattle.sb_fraction.specs.Bounds.{greatest_cross}
use Rattle.sb_model.specs.Labels.{axis_vector, readings_in}
use Rattle.sb_model.proofs.extent.over_points.Given as goal

abbrev pub invariant-points : goal.invariant-points
invariant-points l =
    (fold int_min l.fn.extent.low (readings_in l.prism (axis_vector l.along) l.points)
    ≡ fold int_min l.extent.low (readings_in l.prism (axis_vector l.along) (drop l.point-index l.points)))
    × ((fold int_max l.fn.extent.high (readings_in l.prism (axis_vector l.along) l.points)
    ≡ fold int_max l.extent.high (readings_in l.prism (axis_vector l.along) (drop l.point-index l.points)))
    × ((unsigned_abs l.extent.low ≤ greatest_cross) × (unsigned_abs l.extent.high ≤ greatest_cross)))
