use Rattle.std.proofs.Common.{◌∙◌, sym}
use Rattle.sb_points.specs.Places.{spot_over}
use Rattle.sb_model.specs.Solids.{is_in_solid}
use Rattle.sb_model.proofs.FirstThatPasses.{found_here}
use Rattle.sb_model.proofs.labels.labelling.element_at.Goals as goal

pub returns-then-contains : goal.returns-then-contains
returns-then-contains c =
    found_here (λ e. is_in_solid e.prism (spot_over c.args.p.now c.args.z.now)) c.args.elements.now
    c.as_slice-element-items.result.now c.elements.element-index c.element-item.result
    c.as_slice-element-items.ensures c.elements.invariant c.elements-test.true c.element-item.is
    (sym c.contains.ensures ∙ c.if-contains.true)
