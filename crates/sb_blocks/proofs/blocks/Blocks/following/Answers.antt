-- Behind the last item of a block is the first place of the next, or the end.
use Rattle.std.proofs.Common.{ap, ◌∙◌, arith, length}
use Rattle.sb_blocks.proofs.EditsOfOneBlock.{length_read, rank_behind_last}
use Rattle.sb_blocks.proofs.PlacesInOrder.{next_block}
use Rattle.sb_blocks.proofs.blocks.Blocks.following.Goals as goal

pub returns-then-block-blocks-clause-same : goal.returns-then-block-blocks-clause-same
returns-then-block-blocks-clause-same c =
    let items = c.as_slice-blocks.ensures.value ∙ c.self.view_is in
    let count = ap length items in
    let block = length_read c.as_slice-blocks.result.now c.args.self.now c.args.place.block
    c.index-blocks-place.result items (omega arith) c.index-blocks-place.is in
    next_block c.args.self.now c.args.place (omega (arith, count)) (omega (arith, block))

pub returns-else-block-blocks-clause-last : goal.returns-else-block-blocks-clause-last
returns-else-block-blocks-clause-last c =
    let items = c.as_slice-blocks.ensures.value ∙ c.self.view_is in
    let count = ap length items in
    let block = length_read c.as_slice-blocks.result.now c.args.self.now c.args.place.block
    c.index-blocks-place.result items (omega arith) c.index-blocks-place.is in
    rank_behind_last c.args.self.now c.args.place (omega (arith, count)) (omega (arith, block))
