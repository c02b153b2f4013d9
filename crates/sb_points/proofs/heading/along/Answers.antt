use Rattle.std.proofs.Common.{rules, w32, FitsSigned}
use Rattle.std.specs.Int.{w128}
use Rattle.std.proofs.lemmas.Int.{to_z-of_z}
use Rattle.sb_points.proofs.heading.along.Goals as goal

pub invariant_of-result : goal.invariant_of-result
invariant_of-result c =
    let x_fits : FitsSigned w128 c.args.x = search rules in
    let y_fits : FitsSigned w128 c.args.y = search rules in
    let long_run : FitsSigned w128 c.slope-rise.result.1 = search rules in
    let long_rise : FitsSigned w128 c.slope-rise.result.0 = search rules in
    let run : FitsSigned w32 c.slope-rise.result.1 = search rules in
    let rise : FitsSigned w32 c.slope-rise.result.0 = search rules in
    rw (to_z-of_z w128 _ long_run, to_z-of_z w128 _ long_rise, to_z-of_z w32 _ run, to_z-of_z w32 _ rise)
    (record { is_direction = c.slope-rise.ensures.is_direction })

pub returns : goal.returns
returns c =
    let x_fits : FitsSigned w128 c.args.x = search rules in
    let y_fits : FitsSigned w128 c.args.y = search rules in
    let long_run : FitsSigned w128 c.slope-rise.result.1 = search rules in
    let long_rise : FitsSigned w128 c.slope-rise.result.0 = search rules in
    let run : FitsSigned w32 c.slope-rise.result.1 = search rules in
    let rise : FitsSigned w32 c.slope-rise.result.0 = search rules in
    let value = simp to_z-of_z at c.slope-rise.ensures.value in
    rw (to_z-of_z w128 _ long_run, to_z-of_z w128 _ long_rise, to_z-of_z w32 _ run, to_z-of_z w32 _ rise)
    value
