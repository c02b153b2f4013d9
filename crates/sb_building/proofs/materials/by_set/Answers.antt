use Rattle.std.proofs.Common.{Some, sym, subst}
use Rattle.sb_schema.specs.Views.Taking.{with_memory}
use Rattle.sb_profile.specs.Entities.Entity.{material_layer_set}
use Rattle.sb_building.specs.Layerings.{IsMadeOf}
use Rattle.sb_building.specs.Steps.Materials.{AreLayersOf}
use Rattle.sb_building.proofs.Known.MaterialsAreRead.{nothing, set_made}
use Rattle.sb_building.proofs.Known.LayersOneByOne.{shown_one, shown_none, of_set}
use Rattle.sb_building.proofs.materials.by_set.Goals as goal

pub returns-in-None : goal.returns-in-None
returns-in-None c = λ said says no_material no_usage.
    nothing said c.args.unit c.args.number no_material no_usage
    (shown_none c.in_ok-given.field-0 (said.given material_layer_set c.args.number) of_set
    (c.in_ok-given.ensures with_memory material_layer_set of_set c.args.file.now c.args.number said
    c.material_layer_set.ensures says) c.in-None.is)

pub returns-in_ok-layers-in-Some : goal.returns-in_ok-layers-in-Some
returns-in_ok-layers-in-Some c = λ said says no_material no_usage.
    subst (IsMadeOf said c.args.unit (Some c.args.number)) (sym c.in_layers.ensures)
    (set_made said c.args.unit c.args.number c.in-Some.set.a1 c.in_ok-layers-in-Some.layers no_material no_usage
    (shown_one c.in_ok-given.field-0 c.in-Some.set (said.given material_layer_set c.args.number) of_set
    (c.in_ok-given.ensures with_memory material_layer_set of_set c.args.file.now c.args.number said
    c.material_layer_set.ensures says) c.in-Some.is)
    (subst (λ ns. AreLayersOf said c.args.unit ns c.in_ok-layers-in-Some.layers) c.as_slice.ensures
    (c.in_ok-layers-in-Some.ensures said says)))
