use Rattle.std.proofs.Common.{rules, ◌∙◌, ap, ap₂, w32, w64, FitsSigned, ◌+ℤ◌, ◌*ℤ◌}
use Rattle.std.proofs.lemmas.Int.{to_z-of_z}
use Rattle.std.specs.Int.{int_min, int_max}
use Rattle.sb_fraction.specs.Crossings.{abscissa_at}
use Rattle.sb_model.specs.Labels.{axis_vector}
use Rattle.sb_model.proofs.extent.over_point.Goals as goal

pub returns-clause-low : goal.returns-clause-low
returns-clause-low c =
    let low_fits : FitsSigned w32 c.z0.result = search rules in
    let high_fits : FitsSigned w32 c.z1.result = search rules in
    let first_fits : FitsSigned w64 c.reading_at.result = search rules in
    let second_fits : FitsSigned w64 c.reading_at-2.result = search rules in
    let over = abscissa_at c.args.p (axis_vector c.args.along) in
    c.widened.ensures.low
    ∙ ap₂ int_min
    (c.widened-below.ensures.low
    ∙ ap (int_min c.args.extent.low)
    (to_z-of_z w64 c.reading_at.result first_fits ∙ c.reading_at.ensures.value
    ∙ ap (λ z. over +ℤ (z *ℤ c.args.along.z)) (to_z-of_z w32 c.z0.result low_fits ∙ c.z0.ensures.value)))
    (to_z-of_z w64 c.reading_at-2.result second_fits ∙ c.reading_at-2.ensures.value
    ∙ ap (λ z. over +ℤ (z *ℤ c.args.along.z)) (to_z-of_z w32 c.z1.result high_fits ∙ c.z1.ensures.value))

pub returns-clause-high : goal.returns-clause-high
returns-clause-high c =
    let low_fits : FitsSigned w32 c.z0.result = search rules in
    let high_fits : FitsSigned w32 c.z1.result = search rules in
    let first_fits : FitsSigned w64 c.reading_at.result = search rules in
    let second_fits : FitsSigned w64 c.reading_at-2.result = search rules in
    let over = abscissa_at c.args.p (axis_vector c.args.along) in
    c.widened.ensures.high
    ∙ ap₂ int_max
    (c.widened-below.ensures.high
    ∙ ap (int_max c.args.extent.high)
    (to_z-of_z w64 c.reading_at.result first_fits ∙ c.reading_at.ensures.value
    ∙ ap (λ z. over +ℤ (z *ℤ c.args.along.z)) (to_z-of_z w32 c.z0.result low_fits ∙ c.z0.ensures.value)))
    (to_z-of_z w64 c.reading_at-2.result second_fits ∙ c.reading_at-2.ensures.value
    ∙ ap (λ z. over +ℤ (z *ℤ c.args.along.z)) (to_z-of_z w32 c.z1.result high_fits ∙ c.z1.ensures.value))
