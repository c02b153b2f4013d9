-- The normals of Bottom and Top.

use Rattle.sb_fraction.specs.Directions.{axis_z}
use Rattle.sb_fraction.specs.Spots.{Vector, opposite}
use Rattle.sb_walk.specs.declared.way.Way.{Way}
use Rattle.sb_walk.specs.declared.way.Way.TheVariants as way

-- down, or up
abbrev pub normal_of : Way → Vector
normal_of way.Down = opposite axis_z
normal_of way.Up = axis_z
