use Rattle.sb_model.proofs.NumbersInOrder.{numbers-in-order, all-numbers}
use Rattle.sb_model.proofs.numbering.filling_numbers.Goals as goal

pub returns : goal.returns
returns c = numbers-in-order (λ f. f.number) c.args.fillings.now c.fillings.numbers.items c.of.result
    (all-numbers (λ f. f.number) c.fillings.numbers.items c.fillings.filling-index c.as_slice-filling-items.result.now
    c.args.fillings.now c.fillings.invariant c.fillings-test.false c.as_slice-filling-items.ensures)
    c.of.ensures
