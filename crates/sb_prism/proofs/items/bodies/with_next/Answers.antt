use Rattle.std.proofs.Common.{◌∙◌, ap}
use Rattle.sb_prism.specs.Kept.{joined}
use Rattle.sb_prism.proofs.Solids.BodiesAreRead.{body_grows}
use Rattle.sb_prism.proofs.items.bodies.with_next.Goals as goal

pub returns : goal.returns
returns c rs was =
    body_grows rs c.args.next c.args.body _ _ was
    (c.and.ensures ∙ ap (joined c.args.body.faults) c.representation_faults-next_faults.ensures)
    c.first_items.ensures
