use Rattle.sb_profile.specs.Defects.{Occurs}
use Rattle.sb_profile.proofs.Verdicts.OneFirst.{one_first, earlier_first, later_follow}
use Rattle.sb_profile.proofs.laws.one_first_defect.Goals as goal

pub returns-clause-one : goal.returns-clause-one
returns-clause-one c = λ indexed said codes one two says first second.
    one_first (Occurs said) codes one two (first said says) (second said says)

pub returns-clause-earlier : goal.returns-clause-earlier
returns-clause-earlier c = λ indexed codes later d first said says.
    earlier_first (Occurs said) codes later d (first said says)

pub returns-clause-later : goal.returns-clause-later
returns-clause-later c = λ indexed codes later found none first said says.
    later_follow (Occurs said) codes later found (none said says) (first said says)
