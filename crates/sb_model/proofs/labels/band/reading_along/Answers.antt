use Rattle.std.proofs.Common.{◌∙◌, sym, ap, ap₂, rules, pos, w32, FitsSigned, subst, to_z, of_z, ◌<ℤ◌, ◌*ℤ◌}
use Rattle.std.specs.Int.{w128}
use Rattle.std.proofs.lemmas.Int.{to_z-of_z}
use Rattle.sb_model.proofs.LabelsOfPoints.LayersByBands.{layer_axis, upright_where, level-reading, upright-reading}
use Rattle.sb_model.proofs.labels.band.reading_along.Goals as goal

pub returns-then-along-eq0-clause-value : goal.returns-then-along-eq0-clause-value
returns-then-along-eq0-clause-value c =
    let num_fits : FitsSigned w128 c.in_plan.result = search rules in
    let w_fits : FitsSigned w128 c.args.p.now.w = search rules in
    let z_fits : FitsSigned w32 c.args.along.z = search rules in
    rw (to_z-of_z w128 c.in_plan.result num_fits, to_z-of_z w128 c.args.p.now.w w_fits, c.in_plan.ensures.value)
    (level-reading c.args.along c.args.p.now c.args.z.now
    (sym (to_z-of_z w32 c.args.along.z z_fits) ∙ ap (to_z w32) c.if-along-eq0.true)
    (subst (λ d. pos 0 <ℤ d) c.den-den.ensures.value c.den-den.ensures.positive))

pub returns-else-along-eq0-clause-value : goal.returns-else-along-eq0-clause-value
returns-else-along-eq0-clause-value c =
    let num_fits : FitsSigned w128 c.upright.result = search rules in
    let den_fits : FitsSigned w128 c.den-den.result = search rules in
    let height_fits : FitsSigned w128 c.num.result = search rules in
    let z_fits : FitsSigned w32 c.args.along.z = search rules in
    let axis = layer_axis c.args.along c.requires.axis_in in
    let across = upright_where c.args.along axis.level_or_upright
    (λ flat. c.if-along-eq0.false (ap (of_z w32) flat)) in
    rw (
      to_z-of_z w128 c.upright.result num_fits,
      to_z-of_z w128 c.den-den.result den_fits,
      c.den-den.ensures.value,
      c.upright.ensures.value ∙ ap₂ (λ a b. a *ℤ b) (to_z-of_z w128 c.num.result height_fits ∙ c.num.ensures.value)
          (to_z-of_z w32 c.args.along.z z_fits),
    )
    (upright-reading c.args.along c.args.p.now c.args.z.now across.0 across.1)
