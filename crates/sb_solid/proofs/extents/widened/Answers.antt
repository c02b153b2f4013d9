use Rattle.std.proofs.Common.{rules, FitsSigned}
use Rattle.std.specs.Int.{w128}
use Rattle.std.proofs.lemmas.Int.{to_z-of_z}
use Rattle.theory_numbers.proofs.Signs.{less_from, not_less_from}
use Rattle.sb_solid.proofs.Coordinates.SpansGrow.{reaches_lower, reaches_higher, reaches_still}
use Rattle.sb_solid.proofs.extents.widened.Goals as goal

pub returns-then-number-extent : goal.returns-then-number-extent
returns-then-number-extent c numbers is =
    let a : FitsSigned w128 c.args.extent.low = search rules in
    let b : FitsSigned w128 c.args.extent.high = search rules in
    let n : FitsSigned w128 c.args.number = search rules in
    let less = simp to_z-of_z at c.if-number-extent.true in
    simp to_z-of_z
    (reaches_lower numbers c.args.extent.low c.args.extent.high c.args.number is
    (less_from c.args.number c.args.extent.low less))

pub returns-then-extent-number : goal.returns-then-extent-number
returns-then-extent-number c numbers is =
    let a : FitsSigned w128 c.args.extent.low = search rules in
    let b : FitsSigned w128 c.args.extent.high = search rules in
    let n : FitsSigned w128 c.args.number = search rules in
    let more = simp to_z-of_z at c.if-extent-number.true in
    simp to_z-of_z
    (reaches_higher numbers c.args.extent.low c.args.extent.high c.args.number is
    (less_from c.args.extent.high c.args.number more))

pub returns : goal.returns
returns c numbers is =
    let a : FitsSigned w128 c.args.extent.low = search rules in
    let b : FitsSigned w128 c.args.extent.high = search rules in
    let n : FitsSigned w128 c.args.number = search rules in
    let least = simp to_z-of_z at c.if-number-extent.false in
    let most = simp to_z-of_z at c.if-extent-number.false in
    reaches_still numbers c.args.extent.low c.args.extent.high c.args.number is
    (not_less_from c.args.number c.args.extent.low least) (not_less_from c.args.extent.high c.args.number most)
