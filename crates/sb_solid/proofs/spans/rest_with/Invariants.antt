use Rattle.std.proofs.Common.{ℤ, List, ◌++◌, map, take}
use Rattle.sb_solid.specs.Spans.{IsExtentOf, rest_from}
use Rattle.sb_solid.specs.Steps.{coordinates}
use Rattle.sb_solid.proofs.spans.rest_with.Given as goal

abbrev pub invariant-points : goal.invariant-points
invariant-points l =
    (numbers : List ℤ) → IsExtentOf numbers l.fn.extent
    → IsExtentOf (numbers ++ map (rest_from l.from) (coordinates l.along (take l.point-index l.points))) l.extent
