use Rattle.std.proofs.Common.{◌∙◌, ap}
use Rattle.sb_prism.specs.Kept.{joined}
use Rattle.sb_prism.proofs.items.shapes.body_kept.Goals as goal

pub returns : goal.returns
returns c =
    let (items, are, is) = c.in_ok-kept.ensures in (
      items,
      are,
      c.and.ensures ∙ ap (joined c.args.body.faults) is.faults,
      is.solid,
    )
