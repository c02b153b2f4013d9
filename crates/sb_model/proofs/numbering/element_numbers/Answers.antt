use Rattle.sb_model.proofs.NumbersInOrder.{numbers-in-order, all-numbers}
use Rattle.sb_model.proofs.numbering.element_numbers.Goals as goal

pub returns : goal.returns
returns c = numbers-in-order (λ e. e.number) c.args.elements.now c.elements.numbers.items c.of.result
    (all-numbers (λ e. e.number) c.elements.numbers.items c.elements.element-index c.as_slice-element-items.result.now
    c.args.elements.now c.elements.invariant c.elements-test.false c.as_slice-element-items.ensures)
    c.of.ensures
