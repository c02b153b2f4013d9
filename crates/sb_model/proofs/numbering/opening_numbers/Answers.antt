use Rattle.sb_model.proofs.NumbersInOrder.{numbers-in-order, all-numbers}
use Rattle.sb_model.proofs.numbering.opening_numbers.Goals as goal

pub returns : goal.returns
returns c = numbers-in-order (λ o. o.number) c.args.openings.now c.openings.numbers.items c.of.result
    (all-numbers (λ o. o.number) c.openings.numbers.items c.openings.opening-index c.as_slice-opening-items.result.now
    c.args.openings.now c.openings.invariant c.openings-test.false c.as_slice-opening-items.ensures)
    c.of.ensures
