-- For the body that makes a whole number a fraction.
use Rattle.std.proofs.lemmas.Int.{to_z-of_z}
use Rattle.theory_numbers.proofs.Fractions.LowestTerms.{reduced-one}

pub ruleset wholes = (to_z-of_z, reduced-one)
