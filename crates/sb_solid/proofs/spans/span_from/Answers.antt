use Rattle.std.proofs.Common.{map, subst, rules, FitsSigned}
use Rattle.std.specs.Int.{w128}
use Rattle.std.proofs.lemmas.Int.{to_z-of_z}
use Rattle.sb_solid.specs.Spans.{IsExtentOf, rest_from}
use Rattle.sb_solid.specs.Steps.{numbers_along}
use Rattle.sb_solid.proofs.Coordinates.SpansGrow.{none_of_map}
use Rattle.sb_solid.proofs.spans.span_from.Goals as goal

pub returns-in-None : goal.returns-in-None
returns-in-None c reaches =
    let low : FitsSigned w128 c.args.reach.low = search rules in
    let rest = simp to_z-of_z at c.rest_of.ensures in
    none_of_map (rest_from c.args.reach.low) (numbers_along c.args.along c.args.loops.now)
    (subst (IsExtentOf (map (rest_from c.args.reach.low) (numbers_along c.args.along c.args.loops.now))) c.in-None.is rest)

pub returns-in-Some : goal.returns-in-Some
returns-in-Some c reaches =
    let low : FitsSigned w128 c.args.reach.low = search rules in
    let rest = simp to_z-of_z at c.rest_of.ensures in
    record {
      reach = reaches;
      rest = subst (IsExtentOf (map (rest_from c.args.reach.low) (numbers_along c.args.along c.args.loops.now))) c.in-Some.is rest;
    }
