use Rattle.sb_fixed.proofs.RoundedIsOne.{rounded_is_the_one, texts_are_rounded}
use Rattle.sb_fixed.proofs.laws.rounding_is_one_number.Goals as goal

pub returns-clause-one : goal.returns-clause-one
returns-clause-one c = rounded_is_the_one

pub returns-clause-texts : goal.returns-clause-texts
returns-clause-texts c = texts_are_rounded
