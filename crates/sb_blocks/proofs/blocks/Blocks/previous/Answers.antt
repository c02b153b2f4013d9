-- The last item of the block before stands before the first of a block.
use Rattle.std.proofs.Common.{ap, ◌∙◌, arith, length, sym, ◌-◌}
use Rattle.sb_blocks.specs.Blocks.{are_blocks}
use Rattle.sb_blocks.proofs.EditsOfOneBlock.{length_read}
use Rattle.sb_blocks.proofs.PlacesInOrder.{last_before}
use Rattle.sb_blocks.proofs.blocks.Blocks.previous.Goals as goal

pub returns-clause-next : goal.returns-clause-next
returns-clause-next c =
    let items = c.as_slice-blocks.ensures.value ∙ c.self.view_is in
    let count = ap length items in
    let block = length_read c.as_slice-blocks.result.now c.args.self.now (c.min-before.result - 1)
    c.index-blocks-block.result items (omega arith) c.index-blocks-block.is in
    let last = last_before c.args.self.now c.args.place (c.min-before.result - 1)
    (ap are_blocks (sym c.self.view_is) ∙ c.self.invariant.0) (omega (arith, count))
    (omega arith) in
    omega (arith, block, last)
