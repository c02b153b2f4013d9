use Rattle.sb_schema.specs.Views.Taking.{with_memory}
use Rattle.sb_profile.specs.Entities.Entity.{material}
use Rattle.std.proofs.Common.{◌∙◌}
use Rattle.sb_building.proofs.Known.LayersOneByOne.{shown_one, shown_none, of_material, name_given, name_not_given}
use Rattle.sb_building.proofs.materials.name_at.Goals as goal

pub returns-in-Some-2 : goal.returns-in-Some-2
returns-in-Some-2 c = λ said says.
    name_given said c.args.number c.in-Some.number c.in-Some-2.view.a1 c.in-Some.is
    (shown_one c.in_ok-view.field-0 c.in-Some-2.view (said.given material c.in-Some.number) of_material
    (c.in_ok-view.ensures with_memory material of_material c.args.file.now c.in-Some.number said
    c.material.ensures says) c.in-Some-2.is)

pub returns-in-None : goal.returns-in-None
returns-in-None c = λ said says.
    c.new-in-None.ensures
    ∙ name_not_given said c.args.number c.in-Some.number c.in-Some.is
    (shown_none c.in_ok-view.field-0 (said.given material c.in-Some.number) of_material
    (c.in_ok-view.ensures with_memory material of_material c.args.file.now c.in-Some.number said
    c.material.ensures says) c.in-None.is)
