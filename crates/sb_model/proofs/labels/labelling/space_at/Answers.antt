use Rattle.std.proofs.Common.{◌∙◌, sym, ap}
use Rattle.std.specs.Option.{option_map}
use Rattle.sb_points.specs.Places.{spot_over}
use Rattle.sb_model.specs.declared.products.Space.{Space}
use Rattle.sb_model.specs.Solids.{is_in_solid}
use Rattle.sb_model.proofs.FirstThatPasses.{found_here}
use Rattle.sb_model.proofs.labels.labelling.space_at.Goals as goal

pub returns-then-contains : goal.returns-then-contains
returns-then-contains c =
    ap (option_map (λ (s : Space). s.number))
    (found_here (λ s. is_in_solid s.prism (spot_over c.args.p.now c.args.z.now)) c.args.spaces.now
    c.as_slice-space-items.result.now c.spaces.space-index c.space-item.result
    c.as_slice-space-items.ensures c.spaces.invariant c.spaces-test.true c.space-item.is
    (sym c.contains.ensures ∙ c.if-contains.true))
