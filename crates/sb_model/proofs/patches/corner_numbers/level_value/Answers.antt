use Rattle.std.proofs.Common.{rules, w32, w64, FitsSigned, ◌+ℤ◌, ◌*ℤ◌, ◌∙◌, ap, ap₂}
use Rattle.std.specs.Int.{w128}
use Rattle.std.proofs.lemmas.Int.{to_z-of_z}
use Rattle.theory_numbers.specs.Fractions.{reduced}
use Rattle.theory_numbers.proofs.Ring.{mul_comm}
use Rattle.sb_model.proofs.patches.corner_numbers.level_value.Goals as goal

pub returns : goal.returns
returns c =
    let dx : FitsSigned w32 c.args.side.dx = search rules in
    let dx_long : FitsSigned w64 c.args.side.dx = search rules in
    let dy : FitsSigned w32 c.args.side.dy = search rules in
    let off : FitsSigned w64 c.args.side.off = search rules in
    let num : FitsSigned w128 c.num.result = search rules in
    let den : FitsSigned w128 c.den.result = search rules in
    let den_again : FitsSigned w128 c.den-2.result = search rules in
    let part : FitsSigned w128 c.times_step.result = search rules in
    let rest : FitsSigned w128 c.times_den.result = search rules in
    let top : FitsSigned w128 c.sum.result = search rules in
    let scale : FitsSigned w128 c.scale.result = search rules in
    simp to_z-of_z at c.new.ensures.value
    ∙ ap₂ reduced
    (simp to_z-of_z at c.sum.ensures.value
    ∙ ap₂ (λ a b. a +ℤ b)
    (simp to_z-of_z at c.times_step.ensures.value ∙ ap (λ n. n *ℤ c.args.side.dy) c.num.ensures.value)
    (simp to_z-of_z at c.times_den.ensures.value ∙ ap (λ n. c.args.side.off *ℤ n) c.den.ensures.value))
    (simp to_z-of_z at c.scale.ensures.value ∙ ap (λ n. c.args.side.dx *ℤ n) c.den-2.ensures.value)
    ∙ ap (λ p. reduced (p +ℤ (c.args.side.off *ℤ c.args.u.now.den)) (c.args.side.dx *ℤ c.args.u.now.den))
    (mul_comm c.args.u.now.num c.args.side.dy)
