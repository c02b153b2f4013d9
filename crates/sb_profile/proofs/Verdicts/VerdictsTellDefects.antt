-- The defect that a verdict tells is the first, and it tells none only where there is none.
use Rattle.sb_profile.specs.declared.first.Verdict.{Verdict}
use Rattle.sb_profile.specs.declared.first.Verdict.TheVariants as verdict
use Rattle.sb_profile.specs.Contents.{Contents}
use Rattle.sb_profile.specs.Defects.{Occurs, file_codes}
use Rattle.sb_profile.specs.First.{IsFirst}
use Rattle.sb_profile.specs.Verdicts.{IsVerdict, defect_in}

pub told : (c : Contents) (v : Verdict) → IsVerdict c v
    → IsFirst (Occurs c) file_codes (defect_in v)
told c (verdict.Defect defect) is = is
told c (verdict.Sound taken) is = is.sound
