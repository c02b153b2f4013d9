-- What is told of a file: its first defect by the codes of a file, or else what is read of it.
use Rattle.std.specs.Prelude.{◌≡◌, Option, Some, None}
use Rattle.sb_profile.specs.declared.defects.Defect.{Defect}
use Rattle.sb_profile.specs.declared.first.Verdict.{Verdict}
use Rattle.sb_profile.specs.declared.first.Verdict.TheVariants as verdict
use Rattle.sb_profile.specs.declared.first.Taken.{Taken}
use Rattle.sb_profile.specs.Contents.{Contents}
use Rattle.sb_profile.specs.Units.{unit_in}
use Rattle.sb_profile.specs.Following.{building_placement}
use Rattle.sb_profile.specs.Defects.{Occurs, file_codes}
use Rattle.sb_profile.specs.First.{IsFirst}
use Rattle.sb_profile.specs.Steps.Read.{AreTables}

-- the file has no defect of its own, and these are its unit, the placement of its building and its products
pub record IsTaken (c : Contents) (taken : Taken) : Type 0 where
  pub sound : IsFirst (Occurs c) file_codes None
  pub unit : unit_in c ≡ Some taken.unit
  pub building : taken.building ≡ building_placement c
  pub tables : AreTables c taken.tables

-- the defect that is told, if one is
abbrev pub defect_in : Verdict → Option Defect
defect_in (verdict.Defect defect) = Some defect
defect_in (verdict.Sound taken) = None

abbrev pub IsVerdict : Contents → Verdict → Type 0
IsVerdict c (verdict.Defect defect) = IsFirst (Occurs c) file_codes (Some defect)
IsVerdict c (verdict.Sound taken) = IsTaken c taken
