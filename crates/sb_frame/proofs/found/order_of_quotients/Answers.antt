-- The order of the products across.
use Rattle.std.proofs.Common.{FitsSigned, rules, ◌∙◌}
use Rattle.std.specs.Int.{w128}
use Rattle.std.proofs.lemmas.Int.{to_z-of_z}
use Rattle.sb_frame.proofs.Orders.NumbersInOrder.{order_by_products}
use Rattle.sb_frame.proofs.found.order_of_quotients.Goals as goal

pub returns : goal.returns
returns c =
    let first : FitsSigned w128 c.times.result = search rules in
    let second : FitsSigned w128 c.times-2.result = search rules in
    let a : FitsSigned w128 c.args.a = search rules in
    let m : FitsSigned w128 c.args.m = search rules in
    let b : FitsSigned w128 c.args.b = search rules in
    let n : FitsSigned w128 c.args.n = search rules in
    let order = simp to_z-of_z at c.cmp.ensures in
    let one = simp to_z-of_z at c.times.ensures in
    let other = simp to_z-of_z at c.times-2.ensures in
    order ∙ rw (one, other) (order_by_products c.args.a c.args.m c.args.b c.args.n)
