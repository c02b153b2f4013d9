use Rattle.sb_step.proofs.Names.{◌-◌, length}
use Rattle.sb_step.proofs.ParameterLists.DoubledApostrophes.{HalfRead}
use Rattle.sb_step.proofs.parameters.values.undoubled.Given as goal

abbrev pub invariant-bytes : goal.invariant-bytes
invariant-bytes l = HalfRead l.text l.single l.at

abbrev pub decreases-bytes : goal.decreases-bytes
decreases-bytes l = length l.text - l.at
