-- The items of one block more.
use Rattle.std.proofs.Common.{ap, arith, [], length, ◌+◌}
use Rattle.std.proofs.lemmas.List.{get_or_read}
use Rattle.sb_blocks.proofs.PlacesInOrder.{items_through, items_within}
use Rattle.sb_blocks.proofs.reads.count_items.Goals as goal

pub overflow_add-count : goal.overflow_add-count
overflow_add-count c =
    let block = ap length (get_or_read c.args.blocks.now c.loop-block.block-index
    c.block-item.result c.loop-block-test.true c.block-item.is []) in
    let through = items_through c.args.blocks.now c.loop-block.block-index c.loop-block-test.true in
    let within = items_within c.args.blocks.now (c.loop-block.block-index + 1) in
    omega (arith, block, through, within)

pub loop-block-preserved : goal.loop-block-preserved
loop-block-preserved c =
    let block = ap length (get_or_read c.args.blocks.now c.loop-block.block-index
    c.block-item.result c.loop-block-test.true c.block-item.is []) in
    let through = items_through c.args.blocks.now c.loop-block.block-index c.loop-block-test.true in
    omega (arith, block, through)
