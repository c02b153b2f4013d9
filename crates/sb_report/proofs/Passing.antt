-- A number that is passed to a call is itself.

use Rattle.std.proofs.lemmas.Int.{to_z-of_z}

-- for the calls that pass signed numbers on
pub ruleset passing = (to_z-of_z)
