use Rattle.std.proofs.Common.{◌∙◌, ap}
use Rattle.std.proofs.lemmas.Result.{IfOk-weaker}
use Rattle.sb_prism.specs.Kept.{joined, faults_of_local, measure_of, measure_faults}
use Rattle.sb_prism.proofs.Outlines.ContoursAreRead.{rectangle_of_parts}
use Rattle.sb_prism.proofs.sections.rectangles.rectangle.Goals as goal

pub returns : goal.returns
returns c =
    let (p, where_it_is, local_is) = c.in_ok-local.ensures.value in
    let x = c.measured_length-x.result in
    IfOk-weaker c.contour_of.result _ _ (λ contour is. (
      p,
      where_it_is,
      rectangle_of_parts c.args.unit p c.args.sides.now.a4 c.args.sides.now.a5 c.in_ok-local.local x c.measured_length-y.result
          c.and-faults.result contour local_is
          (c.measured_length-x.ensures.value ∙ ap (measure_of c.args.unit) c.bytes.ensures)
          (c.measured_length-y.ensures.value ∙ ap (measure_of c.args.unit) c.bytes-2.ensures)
          (c.and-faults.ensures
          ∙ (ap (λ f. joined f c.and.result) c.of_local.ensures
          ∙ ap (joined (faults_of_local c.in_ok-local.local))
          (c.and.ensures
          ∙ (ap (λ f. joined f c.of_measure-2.result) c.of_measure.ensures
          ∙ ap (joined (measure_faults x)) c.of_measure-2.ensures))))
          is,
    )) c.contour_of.ensures
