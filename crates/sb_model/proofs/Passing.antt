-- What a body with signed numbers passes on: each number is itself.

use Rattle.std.proofs.lemmas.Int.{to_z-of_z}

-- for the sums and products of signed numbers
pub ruleset passing = (to_z-of_z)
