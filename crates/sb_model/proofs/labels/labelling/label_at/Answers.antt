use Rattle.std.proofs.Common.{◌∙◌, sym, ap, rules, w32, FitsSigned, int_lt, ◌*ℤ◌, if◌then◌else◌}
use Rattle.std.proofs.lemmas.Int.{to_z-of_z}
use Rattle.std.specs.Option.{option_copied}
use Rattle.sb_points.specs.Places.{spot_over}
use Rattle.sb_model.specs.declared.labels.label.Label.TheVariants as label
use Rattle.sb_model.specs.Solids.{is_in_solid}
use Rattle.sb_model.proofs.LabelsOfPoints.LabelsFound.{in_space, in_element, in_the_open, open-over, found_layering}
use Rattle.sb_model.proofs.labels.labelling.label_at.Goals as goal

pub returns-in-Some : goal.returns-in-Some
returns-in-Some c =
    in_space c.args.model.now (spot_over c.args.p.now c.args.z.now) c.spaces.ensures.is_building
    c.spaces.result.now c.spaces.ensures.value c.in-Some.number (sym c.space_at.ensures ∙ c.in-Some.is)

pub layer_at-requires-clause-layering_in : goal.layer_at-requires-clause-layering_in
layer_at-requires-clause-layering_in c =
    found_layering c.args.model.now (λ e. is_in_solid e.prism (spot_over c.args.p.now c.args.z.now))
    c.elements.ensures.is_building c.elements.result.now c.elements.ensures.value
    c.in-Some-element_at.element.now (sym (ap option_copied c.in-Some-element_at.is) ∙ c.element_at.ensures)

pub returns-in-Some-element_at : goal.returns-in-Some-element_at
returns-in-Some-element_at c =
    ap (label.Element c.in-Some-element_at.element.now.number) c.layer_at.ensures
    ∙ in_element c.args.model.now (spot_over c.args.p.now c.args.z.now) c.spaces.ensures.is_building
    c.spaces.result.now c.spaces.ensures.value (sym c.space_at.ensures ∙ c.in_default.is)
    c.elements.result.now c.elements.ensures.value
    c.in-Some-element_at.element.now (sym (ap option_copied c.in-Some-element_at.is) ∙ c.element_at.ensures)

pub returns-in-None : goal.returns-in-None
returns-in-None c =
    let level_fits : FitsSigned w32 c.ground.result = search rules in
    c.open_label.ensures.value
    ∙ ap (λ g. if int_lt c.args.z.now.num (g *ℤ c.args.z.now.den) then label.Earth else label.Void)
    (to_z-of_z w32 c.ground.result level_fits ∙ c.ground.ensures.value)
    ∙ open-over c.args.model.now.ground_height c.args.p.now c.args.z.now
    ∙ in_the_open c.args.model.now (spot_over c.args.p.now c.args.z.now) c.spaces.ensures.is_building
    c.spaces.result.now c.spaces.ensures.value (sym c.space_at.ensures ∙ c.in_default.is)
    c.elements.result.now c.elements.ensures.value
    (sym (ap option_copied c.in-None.is) ∙ c.element_at.ensures)
