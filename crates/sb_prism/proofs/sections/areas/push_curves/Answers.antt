use Rattle.std.proofs.Common.{◌∙◌, ap, append_assoc, ◌++◌, ◌∷◌, []}
use Rattle.sb_prism.specs.Shapes.{IsCurve}
use Rattle.sb_prism.specs.Kept.{contour_of}
use Rattle.sb_prism.proofs.EachIsRead.{each_next, each_whole}
use Rattle.sb_prism.proofs.sections.areas.push_curves.Goals as goal

pub numbers-preserved : goal.numbers-preserved
numbers-preserved c =
    let (more, are, grown) = c.numbers.invariant in
    let (next, is, one) = c.in_ok-push_curve.ensures in (
      more ++ next ∷ [],
      each_next (IsCurve c.args.file.now) c.args.numbers.now more c.numbers.number-index next c.numbers-test.true are is,
      λ curves before.
          one (curves ++ more) (grown curves before)
          ∙ ap (contour_of c.args.unit) (append_assoc curves more (next ∷ [])),
    )

pub returns : goal.returns
returns c =
    let (more, are, grown) = c.numbers.invariant in (
      more,
      each_whole (IsCurve c.args.file.now) c.args.numbers.now more c.numbers.number-index c.numbers-test.false are,
      grown,
    )
