-- Signed values that are passed on keep their value.
use Rattle.std.proofs.lemmas.Int.{to_z-of_z}

pub ruleset passing = (to_z-of_z)
