use Rattle.std.proofs.Common.{◌≡◌, true, false, Some, sym, subst}
use Rattle.sb_fixed.specs.Lengths.{micrometres_of}
use Rattle.sb_schema.specs.Views.Taking.{with_memory}
use Rattle.sb_profile.specs.Entities.Entity.{material_layer}
use Rattle.sb_building.specs.Layerings.{is_thickness}
use Rattle.sb_building.specs.Steps.Materials.{IsThicknessOf, IsPushed}
use Rattle.sb_building.proofs.Known.LayersOneByOne.{shown_one, shown_none, of_layer, no_layer, bad_layer, dropped, behind, not_zero}
use Rattle.sb_building.proofs.materials.push_layer.Goals as goal

pub returns-in_default : goal.returns-in_default
returns-in_default c = λ said says.
    no_layer said c.args.unit c.args.index c.args.number c.args.layers.now
    (shown_none c.in_ok-view.field-0 (said.given material_layer c.args.number) of_layer
    (c.in_ok-view.ensures with_memory material_layer of_layer c.args.file.now c.args.number said
    c.material_layer.ensures says) c.in_default.is)

pub returns-in-None : goal.returns-in-None
returns-in-None c = λ said says.
    bad_layer said c.args.unit c.args.index c.args.number c.args.layers.now c.in-Some.view.a1
    c.in-Some.view.a2
    (shown_one c.in_ok-view.field-0 c.in-Some.view (said.given material_layer c.args.number) of_layer
    (c.in_ok-view.ensures with_memory material_layer of_layer c.args.file.now c.args.number said
    c.material_layer.ensures says) c.in-Some.is)
    (subst (λ t. is_thickness (micrometres_of t c.args.unit) ≡ false) c.bytes.ensures c.in-None.ensures)

thick_0 : (c : goal.After-drop-view-in-Some-eq0)
    → IsThicknessOf (micrometres_of c.in-Some.view.a2 c.args.unit) (Some 0)
thick_0 c =
    subst (λ m. IsThicknessOf (micrometres_of c.in-Some.view.a2 c.args.unit) (Some m))
    c.in-Some-eq0.field-0-test
    (subst (λ t. IsThicknessOf (micrometres_of t c.args.unit) (Some c.in-Some-eq0.field-0)) c.bytes.ensures
    c.in-Some-eq0.ensures)

pub returns-in-Some-eq0 : goal.returns-in-Some-eq0
returns-in-Some-eq0 c = λ said says.
    dropped said c.args.unit c.args.index c.args.number c.args.layers.now c.in-Some.view.a1
    c.in-Some.view.a2
    (shown_one c.in_ok-view.field-0 c.in-Some.view (said.given material_layer c.args.number) of_layer
    (c.in_ok-view.ensures with_memory material_layer of_layer c.args.file.now c.args.number said
    c.material_layer.ensures says) c.in-Some.is)
    (thick_0 c)

pub returns : goal.returns
returns c = λ said says.
    subst
    (λ new. IsPushed said c.args.unit c.args.index c.args.number c.args.layers.now new true)
    (sym c.in_ok-push-in-Some-thickness.ensures.ok)
    (behind said c.args.unit c.args.index c.args.number c.args.layers.now c.in-Some.view.a1
    c.in-Some.view.a2
    (shown_one c.in_ok-view.field-0 c.in-Some.view (said.given material_layer c.args.number) of_layer
    (c.in_ok-view.ensures with_memory material_layer of_layer c.args.file.now c.args.number said
    c.material_layer.ensures says) c.in-Some.is)
    c.in-Some-thickness.micro
    (subst (λ t. IsThicknessOf (micrometres_of t c.args.unit) (Some c.in-Some-thickness.micro))
    c.bytes.ensures c.in-Some-thickness.ensures)
    (not_zero c.in-Some-thickness.micro c.in-Some-thickness.micro-test.1) c.in_ok-material-in-Some-thickness.material
    (c.in_ok-material-in-Some-thickness.ensures said says))
