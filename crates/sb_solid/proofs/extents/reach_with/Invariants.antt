use Rattle.std.proofs.Common.{ℤ, List, ◌++◌, take}
use Rattle.sb_solid.specs.Spans.{IsExtentOf}
use Rattle.sb_solid.specs.Steps.{coordinates}
use Rattle.sb_solid.proofs.extents.reach_with.Given as goal

abbrev pub invariant-points : goal.invariant-points
invariant-points l =
    (numbers : List ℤ) → IsExtentOf numbers l.fn.extent
    → IsExtentOf (numbers ++ coordinates l.along (take l.point-index l.points)) l.extent
