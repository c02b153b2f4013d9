use Rattle.std.proofs.Common.{rules, ◌∙◌, ap₂, ◌&&◌, FitsSigned}
use Rattle.std.specs.Int.{w128}
use Rattle.std.proofs.lemmas.Int.{to_z-of_z}
use Rattle.sb_solid.proofs.Coordinates.SpansTellAll.{grid_told}
use Rattle.sb_solid.proofs.spans.are_near.Goals as goal

pub returns : goal.returns
returns c numbers is =
    let a : FitsSigned w128 c.args.span.reach.low = search rules in
    let b : FitsSigned w128 c.args.span.rest.low = search rules in
    let d : FitsSigned w128 c.args.span.rest.high = search rules in
    let s : FitsSigned w128 c.args.shift = search rules in
    let ends = simp to_z-of_z at c.are_ends_near-ends.ensures in
    c.and.ensures ∙ ap₂ (λ s t. s && t) c.is_narrow.ensures ends
    ∙ grid_told numbers c.args.span.reach.low c.args.span.reach.high c.args.span.rest.low c.args.span.rest.high
    c.args.shift is.reach is.rest
