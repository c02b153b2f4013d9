use Rattle.std.proofs.Common.{ap, sym, subst, ◌∙◌, is_some}
use Rattle.sb_profile.specs.Defects.{Occurs, in_buildings}
use Rattle.sb_profile.specs.First.{IsFirst}
use Rattle.sb_profile.specs.Lowest.{lowest_of}
use Rattle.sb_profile.specs.Steps.Read.{head_codes}
use Rattle.sb_profile.proofs.Verdicts.HeadIsFirst.{head_is}
use Rattle.sb_profile.proofs.first.head_defect.Goals as goal

pub returns : goal.returns
returns c = λ said says sorted.
    let schema = c.is_ifc4-schema.result in
    let unit = c.is_some-unit.result in
    let buildings = c.in_buildings-buildings.result in
    let refused = c.lowest-refused.result in
    subst (IsFirst (Occurs said) head_codes) (sym c.head_of.ensures)
    (head_is said schema unit buildings refused
    (sym (c.is_ifc4-schema.ensures said says))
    (sym (c.is_some-unit.ensures
    ∙ ap is_some (c.unit.ensures said says (c.as_slice.ensures.value ∙ sorted.assignments))))
    (sym (c.in_buildings-buildings.ensures
    ∙ ap in_buildings (c.as_slice-2.ensures.value ∙ sorted.buildings)))
    (sym (c.lowest-refused.ensures
    ∙ ap lowest_of (c.as_slice-3.ensures.value ∙ sorted.refused))))
