use Rattle.std.proofs.lemmas.Result.{on_ok_weaker}
use Rattle.sb_prism.proofs.Outlines.ContoursAreRead.{contour_grows}
use Rattle.sb_prism.proofs.sections.areas.push_curve.Goals as goal

pub returns : goal.returns
returns c =
    let (next, is, outline_is) = c.in_ok-outline.ensures in
    on_ok_weaker c.push_loop.result (λ pushed. (
      next,
      is,
      λ curves before. contour_grows c.args.unit curves next _ _ _ before outline_is pushed,
    )) c.push_loop.ensures
