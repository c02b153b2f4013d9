use Rattle.std.proofs.Common.{rules, w32, w64, FitsSigned, ◌+ℤ◌}
use Rattle.std.proofs.lemmas.Int.{to_z-of_z}
use Rattle.sb_model.proofs.LinesOfSides.{square_is_positive}
use Rattle.sb_model.proofs.patches.corner_numbers.square.Goals as goal

pub returns-clause-positive : goal.returns-clause-positive
returns-clause-positive c =
    let x_fits : FitsSigned w32 c.args.d.x = search rules in
    let y_fits : FitsSigned w32 c.args.d.y = search rules in
    let first : FitsSigned w64 c.step_times.result = search rules in
    let second : FitsSigned w64 c.step_times-2.result = search rules in
    let both : FitsSigned w64 (c.step_times.result +ℤ c.step_times-2.result) = search rules in
    let xx = simp to_z-of_z at c.step_times.ensures.value in
    let yy = simp to_z-of_z at c.step_times-2.ensures.value in
    rw (to_z-of_z w64 c.step_times.result first, to_z-of_z w64 c.step_times-2.result second, to_z-of_z w64 _ both, xx, yy)
    (square_is_positive c.args.d)
