use Rattle.sb_solid.proofs.Coordinates.NearIsNearest.{near_is_nearest}
use Rattle.sb_solid.proofs.grid.one_millimetre.Goals as goal

pub returns : goal.returns
returns c = near_is_nearest
