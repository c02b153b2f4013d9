use Rattle.std.proofs.Common.{◌≤◌, ◌∙◌, ap, ap₂, subst, sym, refl, arith, length, rules, FitsSigned, to_z, of_z}
use Rattle.std.specs.Int.{w128}
use Rattle.std.proofs.lemmas.Int.{to_z-of_z}
use Rattle.sb_model.specs.Labels.{total_of, layer_from}
use Rattle.sb_model.specs.Bands.{greatest_total}
use Rattle.sb_model.proofs.LabelsOfPoints.LayersByBands.{total_is_small, layer-here}
use Rattle.sb_model.proofs.labels.band.layer_in.Goals as goal

pub layers-init : goal.layers-init
layers-init c = (
  refl,
  (
    omega (arith, c.len-left.ensures, ap length c.as_slice-layer-items.ensures),
    (
      omega arith,
      subst (λ l. total_of l ≤ greatest_total) (sym c.as_slice-layer-items.ensures)
          (total_is_small c.args.layers.now c.requires.layers_in c.requires.few),
    ),
  ),
)

pub returns-then-is_in_band : goal.returns-then-is_in_band
returns-then-is_in_band c =
    let at_fits : FitsSigned w128 c.args.at = search rules in
    let scale_fits : FitsSigned w128 c.args.scale = search rules in
    layer-here (to_z w128 (of_z w128 c.args.at)) (to_z w128 (of_z w128 c.args.scale)) c.layers.before c.layers.left
    c.args.layers.now c.as_slice-layer-items.result.now c.layers.layer-index c.layer-item.result
    c.as_slice-layer-items.ensures c.layers.invariant.0 c.layers-test.true c.layers.invariant.1.0
    c.layer-item.is (sym c.is_in_band.ensures ∙ c.if-is_in_band.true)
    ∙ ap₂ (λ a s. layer_from a s 0 c.args.layers.now) (to_z-of_z w128 c.args.at at_fits)
    (to_z-of_z w128 c.args.scale scale_fits)
