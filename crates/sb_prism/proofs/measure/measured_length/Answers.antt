use Rattle.std.proofs.Common.{refl}
use Rattle.sb_prism.proofs.SignsOfLengths.{far_measure}
use Rattle.sb_prism.proofs.measure.measured_length.Goals as goal

pub returns-in-Err-clause-value : goal.returns-in-Err-clause-value
returns-in-Err-clause-value c =
    far_measure c.rounding_is_one_number.ensures.texts c.args.text.now c.args.unit c.is_negative.result
    (c.in-Err.ensures.out_of_range.0 refl) c.is_negative.ensures
