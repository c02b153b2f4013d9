-- The ends and sides of patches, as the bodies pass them on.

use Rattle.std.proofs.lemmas.Int.{to_z-of_z}
use Rattle.sb_model.proofs.LinesOfSides.{low_in, high_in, lower_in, upper_in}

-- for the bodies that pass on the ends of a patch
pub ruleset ends = (to_z-of_z, low_in, high_in, lower_in, upper_in)
