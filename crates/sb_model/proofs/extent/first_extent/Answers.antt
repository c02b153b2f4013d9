use Rattle.std.proofs.Common.{rules, ◌∙◌, sym, ap, subst, get_or, w32, w64, FitsSigned, pos, ◌+ℤ◌, ◌*ℤ◌, IsTrue}
use Rattle.std.proofs.lemmas.Int.{to_z-of_z}
use Rattle.sb_fraction.specs.Crossings.{abscissa_at}
use Rattle.sb_fraction.specs.declared.point.Point.{Point}
use Rattle.theory_plans.specs.Plans.{is_plan}
use Rattle.sb_model.specs.Labels.{axis_vector}
use Rattle.sb_model.proofs.FirstReadings.{first_corner}
use Rattle.sb_model.proofs.extent.first_extent.Goals as goal

pub returns-clause-low : goal.returns-clause-low
returns-clause-low c =
    let low_fits : FitsSigned w32 c.z0.result = search rules in
    let first_fits : FitsSigned w64 c.reading_at-first.result = search rules in
    let none : Point = record { x = pos 0; y = pos 0 } in
    let same = c.as_slice-points.ensures ∙ c.points.ensures.value ∙ c.loops.ensures.value in
    to_z-of_z w64 c.reading_at-first.result first_fits ∙ c.reading_at-first.ensures.value
    ∙ ap (λ z. abscissa_at (get_or c.as_slice.result.now 0 none) (axis_vector c.args.along) +ℤ (z *ℤ c.args.along.z))
    (to_z-of_z w32 c.z0.result low_fits ∙ c.z0.ensures.value)
    ∙ first_corner c.args.prism.now (axis_vector c.args.along) c.args.prism.now.loops c.as_slice.result.now
    c.index-points-0.result none
    (subst (λ l. IsTrue (is_plan l)) (c.points.ensures.value ∙ c.loops.ensures.value)
    (subst (λ l. IsTrue (is_plan l)) (sym c.points.ensures.value) c.points.ensures.is_plan))
    (c.as_slice.ensures ∙ c.index-points-0.is ∙ ap (λ l. get_or l 0 c.index-points-0.result) same)

pub returns-clause-high : goal.returns-clause-high
returns-clause-high c =
    let low_fits : FitsSigned w32 c.z0.result = search rules in
    let first_fits : FitsSigned w64 c.reading_at-first.result = search rules in
    let none : Point = record { x = pos 0; y = pos 0 } in
    let same = c.as_slice-points.ensures ∙ c.points.ensures.value ∙ c.loops.ensures.value in
    to_z-of_z w64 c.reading_at-first.result first_fits ∙ c.reading_at-first.ensures.value
    ∙ ap (λ z. abscissa_at (get_or c.as_slice.result.now 0 none) (axis_vector c.args.along) +ℤ (z *ℤ c.args.along.z))
    (to_z-of_z w32 c.z0.result low_fits ∙ c.z0.ensures.value)
    ∙ first_corner c.args.prism.now (axis_vector c.args.along) c.args.prism.now.loops c.as_slice.result.now
    c.index-points-0.result none
    (subst (λ l. IsTrue (is_plan l)) (c.points.ensures.value ∙ c.loops.ensures.value)
    (subst (λ l. IsTrue (is_plan l)) (sym c.points.ensures.value) c.points.ensures.is_plan))
    (c.as_slice.ensures ∙ c.index-points-0.is ∙ ap (λ l. get_or l 0 c.index-points-0.result) same)
