use Rattle.std.proofs.Common.{sym, subst, refl, ◌∙◌, None}
use Rattle.sb_profile.specs.Defects.{Occurs, file_codes}
use Rattle.sb_profile.specs.First.{IsFirst}
use Rattle.sb_profile.proofs.Verdicts.HeadIsFirst.{read_first, head_has_unit}
use Rattle.sb_profile.proofs.first.judged.Goals as goal

pub returns-in-Some : goal.returns-in-Some
returns-in-Some c = λ said says sorted head whole.
    subst (IsFirst (Occurs said) file_codes) (sym c.read_defect.ensures ∙ c.in-Some.is)
    (read_first said None c.args.read.found.unfit c.args.read.found.absent head refl whole.lowest)

pub returns-in-Some-unit : goal.returns-in-Some-unit
returns-in-Some-unit c = λ said says sorted head whole.
    record {
      sound = subst (IsFirst (Occurs said) file_codes) (sym c.read_defect.ensures ∙ c.in-None.is)
          (read_first said None c.args.read.found.unfit c.args.read.found.absent head refl
          whole.lowest);
      unit = sym (c.unit.ensures said says (c.as_slice.ensures.value ∙ sorted.assignments))
          ∙ c.in-Some-unit.is;
      building = whole.building;
      tables = whole.tables;
    }

pub returns-in-None-unit : goal.returns-in-None-unit
returns-in-None-unit c = λ said says sorted head whole.
    absurd (head_has_unit said None head refl
    (sym (c.unit.ensures said says (c.as_slice.ensures.value ∙ sorted.assignments))
    ∙ c.in-None-unit.is))
