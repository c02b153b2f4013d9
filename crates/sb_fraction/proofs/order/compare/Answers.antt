use Rattle.std.proofs.Common.{rules, ◌∙◌, sym, FitsSigned}
use Rattle.std.specs.Int.{w128}
use Rattle.std.proofs.lemmas.Int.{to_z-of_z}
use Rattle.sb_fraction.proofs.FractionsInOrder.{order_by_products, equal_order}
use Rattle.sb_fraction.proofs.order.compare.Goals as goal

pub returns-clause-order : goal.returns-clause-order
returns-clause-order c =
    let f : FitsSigned w128 c.with_offset-first.result = search rules in
    let g : FitsSigned w128 c.with_offset-second.result = search rules in
    let h : FitsSigned w128 c.num.result = search rules in
    let i : FitsSigned w128 c.den.result = search rules in
    let j : FitsSigned w128 c.num-2.result = search rules in
    let k : FitsSigned w128 c.den-2.result = search rules in
    let order = simp to_z-of_z at c.cmp.ensures in
    let first = simp to_z-of_z at c.with_offset-first.ensures.value in
    let second = simp to_z-of_z at c.with_offset-second.ensures.value in
    order
    ∙ rw (
      first,
      second,
      c.num.ensures.value,
      c.den.ensures.value,
      c.num-2.ensures.value,
      c.den-2.ensures.value,
    ) (order_by_products c.args.a.now c.args.b.now)

pub returns-clause-equal : goal.returns-clause-equal
returns-clause-equal c =
    let order = returns-clause-order c in
    let same = equal_order c.args.a.now c.args.b.now c.num.ensures.in_lowest_terms
    c.num-2.ensures.in_lowest_terms in
    (λ is. same.0 (sym order ∙ is), λ is. order ∙ same.1 is)
