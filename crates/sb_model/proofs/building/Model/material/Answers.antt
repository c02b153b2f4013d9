use Rattle.std.proofs.Common.{◌∙◌, sym, ap}
use Rattle.std.specs.Option.{option_copied}
use Rattle.sb_model.specs.Building.{material_through}
use Rattle.sb_model.proofs.building.Model.material.Goals as goal

pub returns-in-Some : goal.returns-in-Some
returns-in-Some c =
    c.material_in.ensures
    ∙ ap (λ o. material_through o c.args.layer)
    (sym (ap option_copied c.in-Some.is) ∙ c.element.ensures)
