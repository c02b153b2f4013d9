use Rattle.std.proofs.lemmas.Result.{IfOk-weaker}
use Rattle.sb_schema.specs.Views.Taking.{with_memory}
use Rattle.sb_profile.specs.Entities.Entity.{material, material_layer_set_usage}
use Rattle.sb_building.proofs.Known.MaterialsAreRead.{made_of_one}
use Rattle.sb_building.proofs.Known.LayersOneByOne.{shown_one, shown_none, of_material, of_usage}
use Rattle.sb_building.proofs.materials.made_at.Goals as goal

pub returns-in-Some : goal.returns-in-Some
returns-in-Some c = λ said says.
    made_of_one said c.args.unit c.args.number c.in-Some.view.a1
    (shown_one c.in_ok-view.field-0 c.in-Some.view (said.given material c.args.number) of_material
    (c.in_ok-view.ensures with_memory material of_material c.args.file.now c.args.number said
    c.material.ensures says) c.in-Some.is)

pub returns-in-Some-2 : goal.returns-in-Some-2
returns-in-Some-2 c =
    IfOk-weaker c.by_usage.result _ _
    (λ what by said says. by said says c.args.number
    (shown_none c.in_ok-view.field-0 (said.given material c.args.number) of_material
    (c.in_ok-view.ensures with_memory material of_material c.args.file.now c.args.number said
    c.material.ensures says) c.in_default.is)
    (shown_one c.in_ok-usage.field-0 c.in-Some-2.usage (said.given material_layer_set_usage c.args.number)
    of_usage
    (c.in_ok-usage.ensures with_memory material_layer_set_usage of_usage c.args.file.now c.args.number said
    c.material_layer_set_usage.ensures says) c.in-Some-2.is))
    c.by_usage.ensures

pub returns : goal.returns
returns c =
    IfOk-weaker c.by_set.result _ _
    (λ what by said says. by said says
    (shown_none c.in_ok-view.field-0 (said.given material c.args.number) of_material
    (c.in_ok-view.ensures with_memory material of_material c.args.file.now c.args.number said
    c.material.ensures says) c.in_default.is)
    (shown_none c.in_ok-usage.field-0 (said.given material_layer_set_usage c.args.number) of_usage
    (c.in_ok-usage.ensures with_memory material_layer_set_usage of_usage c.args.file.now c.args.number said
    c.material_layer_set_usage.ensures says) c.in_default-2.is))
    c.by_set.ensures
