use Rattle.sb_model.proofs.NumbersInOrder.{numbers-in-order, all-numbers}
use Rattle.sb_model.proofs.numbering.space_numbers.Goals as goal

pub returns : goal.returns
returns c = numbers-in-order (λ s. s.number) c.args.spaces.now c.spaces.numbers.items c.of.result
    (all-numbers (λ s. s.number) c.spaces.numbers.items c.spaces.space-index c.as_slice-space-items.result.now
    c.args.spaces.now c.spaces.invariant c.spaces-test.false c.as_slice-space-items.ensures)
    c.of.ensures
