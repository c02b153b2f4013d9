use Rattle.std.proofs.Common.{sym, subst}
use Rattle.sb_profile.specs.Defects.{Occurs, file_codes}
use Rattle.sb_profile.specs.First.{IsFirst}
use Rattle.sb_profile.proofs.Verdicts.VerdictsTellDefects.{told}
use Rattle.sb_profile.proofs.first.first_defect.Goals as goal

pub returns : goal.returns
returns c = λ said says.
    subst (IsFirst (Occurs said) file_codes) (sym c.defect_in.ensures)
    (told said c.in_ok-verdict.verdict (c.in_ok-verdict.ensures said says))
