use Rattle.std.proofs.Common.{rules, w32, w64, FitsSigned, ◌+ℤ◌, ◌*ℤ◌, ◌∙◌, ap, ap₂}
use Rattle.std.specs.Int.{w128}
use Rattle.std.proofs.lemmas.Int.{to_z-of_z}
use Rattle.theory_numbers.specs.Fractions.{reduced}
use Rattle.sb_model.specs.Surfaces.Corners.{corner_along}
use Rattle.sb_model.proofs.patches.corner_numbers.y_along.Goals as goal

pub returns : goal.returns
unfolding corner_along
returns c =
    let d = c.args.line.dir in
    let u = c.args.u.now in
    let dx : FitsSigned w32 c.args.line.dir.x = search rules in
    let dy : FitsSigned w32 c.args.line.dir.y = search rules in
    let off : FitsSigned w64 c.args.line.off = search rules in
    let num : FitsSigned w128 c.num.result = search rules in
    let den : FitsSigned w128 c.den.result = search rules in
    let den_again : FitsSigned w128 c.den-2.result = search rules in
    let along : FitsSigned w128 c.times_step.result = search rules in
    let offset : FitsSigned w128 c.times_den-across.result = search rules in
    let across : FitsSigned w128 c.times_step-2.result = search rules in
    let top : FitsSigned w128 c.sum.result = search rules in
    let length : FitsSigned w64 c.square.result = search rules in
    let scale : FitsSigned w128 c.scale.result = search rules in
    simp to_z-of_z at c.new.ensures.value
    ∙ ap₂ reduced
    (simp to_z-of_z at c.sum.ensures.value
    ∙ ap₂ (λ a b. a +ℤ b)
    (simp to_z-of_z at c.times_step.ensures.value ∙ ap (λ n. n *ℤ d.y) c.num.ensures.value)
    (simp to_z-of_z at c.times_step-2.ensures.value
    ∙ ap (λ n. n *ℤ d.x) (simp to_z-of_z at c.times_den-across.ensures.value
    ∙ ap (λ n. c.args.line.off *ℤ n) c.den.ensures.value)))
    (simp to_z-of_z at c.scale.ensures.value
    ∙ ap₂ (λ a b. a *ℤ b) c.square.ensures.value c.den-2.ensures.value)
