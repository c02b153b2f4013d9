use Rattle.std.proofs.Common.{map, take}
use Rattle.sb_solid.specs.Spans.{IsExtentOf, rest_from}
use Rattle.sb_solid.specs.Steps.{numbers_along}
use Rattle.sb_solid.proofs.spans.rest_of.Given as goal

abbrev pub invariant-loops : goal.invariant-loops
invariant-loops l =
    IsExtentOf (map (rest_from l.from) (numbers_along l.along (take l.points-index l.loops))) l.extent
