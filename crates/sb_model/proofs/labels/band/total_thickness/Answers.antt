use Rattle.std.proofs.Common.{◌≤◌, subst, sym, arith}
use Rattle.sb_model.specs.Labels.{total_of}
use Rattle.sb_model.specs.Bands.{greatest_total}
use Rattle.sb_model.proofs.LabelsOfPoints.LayersByBands.{total_is_small}
use Rattle.sb_model.proofs.labels.band.total_thickness.Goals as goal

pub layers-init : goal.layers-init
layers-init c = (
  omega arith,
  subst (λ l. total_of l ≤ greatest_total) (sym c.as_slice-layer-items.ensures)
      (total_is_small c.args.layers.now c.requires.layers_in c.requires.few),
)
