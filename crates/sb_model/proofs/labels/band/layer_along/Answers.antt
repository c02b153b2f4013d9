use Rattle.std.proofs.Common.{◌∙◌, ap, ap₂, rules, pos, ◌-ℤ◌, ◌*ℤ◌, FitsSigned, to_z, of_z}
use Rattle.std.specs.Int.{w128}
use Rattle.std.proofs.lemmas.Int.{to_z-of_z}
use Rattle.sb_points.specs.Places.{spot_over}
use Rattle.sb_model.specs.Labels.{axis_vector, layer_from, low_along, high_along}
use Rattle.sb_model.proofs.LabelsOfPoints.LayersByBands.{layer_axis, layer-by-reading}
use Rattle.sb_model.proofs.labels.band.layer_along.Goals as goal

pub extent_of-extent-requires : goal.extent_of-extent-requires
extent_of-extent-requires c = record { axis_in = (layer_axis c.args.along c.requires.axis_in).short }

pub returns : goal.returns
returns c =
    let at_fits : FitsSigned w128 c.position-at.result = search rules in
    let length_fits : FitsSigned w128 c.length_of.result = search rules in
    let den_fits : FitsSigned w128 c.reading_along-reading.result.den = search rules in
    let reading = c.reading_along-reading.result in
    let extent = c.extent_of-extent.result in
    let n = axis_vector c.args.along in
    c.layer_in.ensures
    ∙ ap₂ (λ a s. layer_from a s 0 c.args.layers.now)
    (to_z-of_z w128 c.position-at.result at_fits ∙ c.position-at.ensures
    ∙ ap₂ (λ low total. (reading.num -ℤ (low *ℤ reading.den)) *ℤ pos total) c.extent_of-extent.ensures.low
    c.total_thickness.ensures.value)
    (to_z-of_z w128 c.length_of.result length_fits ∙ c.length_of.ensures.value
    ∙ ap₂ (λ low high. (high -ℤ low) *ℤ to_z w128 (of_z w128 reading.den)) c.extent_of-extent.ensures.low
    c.extent_of-extent.ensures.high
    ∙ ap (λ d. (high_along c.args.prism.now n -ℤ low_along c.args.prism.now n) *ℤ d) (to_z-of_z w128 reading.den den_fits))
    ∙ layer-by-reading n (spot_over c.args.p.now c.args.z.now) reading.num reading.den
    (low_along c.args.prism.now n) (high_along c.args.prism.now n) c.args.layers.now
    c.reading_along-reading.ensures.value
