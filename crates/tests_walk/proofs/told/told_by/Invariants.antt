-- What is left are slabs of the model.
use Rattle.std.proofs.Common.{List}
use Rattle.theory_numbers.specs.Arrows.{Arrow}
use Rattle.sb_frame.specs.Directions.{along_x}
use Rattle.sb_slab.specs.Slabs.{HasLeft}
use Rattle.tests_walk.proofs.told.told_by.Given as goal

abbrev pub invariant-slabs : goal.invariant-slabs
invariant-slabs g l = (passed : List Arrow) × HasLeft l.model along_x passed l.slabs
