use Rattle.std.proofs.Common.{subst}
use Rattle.sb_profile.specs.Defects.{Occurs}
use Rattle.sb_profile.specs.First.{IsFirst}
use Rattle.sb_profile.specs.Steps.Read.{head_codes}
use Rattle.sb_profile.proofs.Verdicts.HeadIsFirst.{head_first}
use Rattle.sb_profile.proofs.first.judge.Goals as goal

pub returns-in-Some : goal.returns-in-Some
returns-in-Some c = λ said says.
    head_first said c.head_defect.result c.in-Some.defect
    (c.head_defect.ensures said says (c.in_ok-kinds.ensures said says)) c.in-Some.is

pub returns : goal.returns
returns c = λ said says.
    let sorted = c.in_ok-kinds.ensures said says in
    c.judged.ensures said says sorted
    (subst (IsFirst (Occurs said) head_codes) c.in-None.is (c.head_defect.ensures said says sorted))
    (record {
      lowest = c.in_ok-read-in-None.ensures.lowest said says sorted;
      building = c.in_ok-read-in-None.ensures.building said says sorted;
      tables = c.in_ok-read-in-None.ensures.tables said says sorted;
    })
