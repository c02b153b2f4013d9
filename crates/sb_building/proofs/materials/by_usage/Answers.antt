use Rattle.std.proofs.Common.{Some, sym, subst}
use Rattle.sb_schema.specs.Views.Taking.{with_memory}
use Rattle.sb_profile.specs.Entities.Entity.{material_layer_set}
use Rattle.sb_building.specs.Layerings.{IsMadeOf}
use Rattle.sb_building.specs.Steps.Materials.{IsAlong, AreLayersOf}
use Rattle.sb_building.proofs.Known.MaterialsAreRead.{usage_no_set, usage_made}
use Rattle.sb_building.proofs.Known.LayersOneByOne.{shown_one, shown_none, of_set}
use Rattle.sb_building.proofs.materials.by_usage.Goals as goal

pub returns-in-None : goal.returns-in-None
returns-in-None c = λ said says n no_material usage.
    usage_no_set said c.args.unit n c.args.usage.a1 c.args.usage.a2 c.args.usage.a3 no_material usage
    (shown_none c.in_ok-given.field-0 (said.given material_layer_set c.args.usage.a1) of_set
    (c.in_ok-given.ensures with_memory material_layer_set of_set c.args.file.now c.args.usage.a1 said
    c.material_layer_set.ensures says) c.in-None.is)

pub returns : goal.returns
returns c = λ said says n no_material usage.
    let along =
    subst (λ t. IsAlong t c.args.usage.a3 (Some c.in-Some.along)) c.bytes.ensures
    (subst (λ t. IsAlong c.bytes.result.now t (Some c.in-Some.along)) c.bytes-2.ensures c.in-Some.ensures) in
    subst (IsMadeOf said c.args.unit (Some n)) (sym c.in_layers.ensures)
    (usage_made said c.args.unit n c.args.usage.a1 c.args.usage.a2 c.args.usage.a3 c.in-Some.along
    c.in-Some-2.set.a1 c.in_ok-layers-in-Some-2.layers no_material usage along
    (shown_one c.in_ok-given.field-0 c.in-Some-2.set (said.given material_layer_set c.args.usage.a1) of_set
    (c.in_ok-given.ensures with_memory material_layer_set of_set c.args.file.now c.args.usage.a1 said
    c.material_layer_set.ensures says) c.in-Some-2.is)
    (subst (λ ns. AreLayersOf said c.args.unit ns c.in_ok-layers-in-Some-2.layers) c.as_slice.ensures
    (c.in_ok-layers-in-Some-2.ensures said says)))
