-- When the line passes a point, as a number that is not below 0.

use Rattle.std.proofs.lemmas.Int.{ints, to_z-of_z}
use Rattle.theory_sweep.proofs.PassedInOrder.{pass_is}

-- for the numbers of corners
pub ruleset passing = (to_z-of_z, pass_is)
