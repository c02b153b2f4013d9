use Rattle.std.proofs.Common.{rules, ◌∙◌, FitsSigned}
use Rattle.std.specs.Int.{w128}
use Rattle.std.proofs.lemmas.Int.{to_z-of_z}
use Rattle.sb_solid.proofs.Coordinates.SpansTellAll.{range_told}
use Rattle.sb_solid.proofs.spans.are_in_world.Goals as goal

pub returns : goal.returns
returns c numbers is =
    let a : FitsSigned w128 c.args.span.reach.low = search rules in
    let b : FitsSigned w128 c.args.span.reach.high = search rules in
    let s : FitsSigned w128 c.args.shift = search rules in
    let ends = simp to_z-of_z at c.are_ends_in_world.ensures in
    ends ∙ range_told numbers c.args.span.reach.low c.args.span.reach.high c.args.shift is.reach
