use Rattle.std.proofs.Common.{◌∙◌, ap₂, rules, w32, FitsSigned, ◌-ℤ◌}
use Rattle.std.specs.Int.{w128}
use Rattle.std.proofs.lemmas.Int.{to_z-of_z}
use Rattle.theory_numbers.proofs.Ring.{mul_comm}
use Rattle.sb_model.proofs.patches.patch_points.rise.Goals as goal

pub returns : goal.returns
returns c =
    let dx : FitsSigned w32 c.args.side.dx = search rules in
    let dy : FitsSigned w32 c.args.side.dy = search rules in
    let x : FitsSigned w128 c.args.p.now.x = search rules in
    let y : FitsSigned w128 c.args.p.now.y = search rules in
    let up : FitsSigned w128 c.crossing_times.result = search rules in
    let across : FitsSigned w128 c.crossing_times-2.result = search rules in
    let both : FitsSigned w128 (c.crossing_times.result -ℤ c.crossing_times-2.result) = search rules in
    rw (to_z-of_z w128 c.crossing_times.result up, to_z-of_z w128 c.crossing_times-2.result across, to_z-of_z w128 _ both)
    (ap₂ (λ a b. a -ℤ b)
    (simp to_z-of_z at c.crossing_times.ensures.value ∙ mul_comm c.args.p.now.y c.args.side.dx)
    (simp to_z-of_z at c.crossing_times-2.ensures.value ∙ mul_comm c.args.p.now.x c.args.side.dy))
