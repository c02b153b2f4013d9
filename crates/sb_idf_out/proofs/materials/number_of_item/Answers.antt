use Rattle.std.proofs.Common.{rules, FitsSigned, ap, ◌∙◌, ◌++◌}
use Rattle.std.specs.Int.{w128}
use Rattle.std.proofs.lemmas.Int.{to_z-of_z}
use Rattle.sb_idf_out.specs.Materials.{of_item}
use Rattle.sb_idf_out.specs.Objects.{material_object}
use Rattle.sb_idf_out.proofs.ItemsAreNumbered.{material_known, material_added}
use Rattle.sb_idf_out.proofs.materials.number_of_item.Goals as goal

pub returns-in-Some : goal.returns-in-Some
returns-in-Some c =
    let fits : FitsSigned w128 c.round_whole-thickness.result = search rules in
    λ ms (ns, names, all, numbered, written).
    material_known c.args.model.now ms (of_item c.args.model.now c.args.item.now)
    c.args.materials.now.numbers c.args.materials.now.objects ns all numbered written
    c.number_of_layer.new.names c.in_ok-name.name c.round_whole-thickness.result c.in-Some.number
    (c.in_ok-name.ensures ns names) c.round_whole-thickness.ensures
    (simp to_z-of_z at c.in-Some.ensures)

pub returns-in_ok-add-in-None : goal.returns-in_ok-add-in-None
returns-in_ok-add-in-None c =
    let fits : FitsSigned w128 c.round_whole-thickness.result = search rules in
    λ ms (ns, names, all, numbered, written).
    material_added c.args.model.now ms (of_item c.args.model.now c.args.item.now)
    c.args.materials.now.numbers c.args.materials.now.objects ns all numbered written
    c.number_of_layer.new.names c.in_ok-name.name c.round_whole-thickness.result
    c.in_ok-number-in-None.number (c.in_ok-name.ensures ns names) c.round_whole-thickness.ensures
    c.add.new.numbers c.append_material.new.text (simp to_z-of_z at c.in-None.ensures)
    c.in_ok-number-in-None.ensures (simp to_z-of_z at c.in_ok-add-in-None.ensures)
    ((simp to_z-of_z at c.in_ok-append_material-in-None.ensures)
    ∙ ap (λ t. c.args.materials.now.objects ++ material_object c.in_ok-number-in-None.number t)
    c.round_whole-thickness.ensures)
