use Rattle.std.proofs.Common.{take}
use Rattle.sb_solid.specs.Spans.{IsExtentOf}
use Rattle.sb_solid.specs.Steps.{numbers_along}
use Rattle.sb_solid.proofs.extents.reach_of.Given as goal

abbrev pub invariant-loops : goal.invariant-loops
invariant-loops l = IsExtentOf (numbers_along l.along (take l.points-index l.loops)) l.extent
