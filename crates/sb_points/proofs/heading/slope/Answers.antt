use Rattle.std.proofs.Common.{rules, FitsSigned}
use Rattle.std.specs.Int.{w128}
use Rattle.std.proofs.lemmas.Int.{to_z-of_z}
use Rattle.sb_points.proofs.EdgesHeaded.{slope_is_direction}
use Rattle.sb_points.proofs.heading.slope.Goals as goal

pub returns-clause-is_direction : goal.returns-clause-is_direction
returns-clause-is_direction c =
    let x_fits : FitsSigned w128 c.args.x = search rules in
    let y_fits : FitsSigned w128 c.args.y = search rules in
    let value = simp to_z-of_z at c.reduce.ensures.value in
    slope_is_direction c.args.x c.args.y c.reduce.result.0 c.reduce.result.1 c.requires.positive
    c.requires.x_in c.requires.y_in value
