-- What is taken from a block is taken from the flat list.
use Rattle.std.proofs.Common.{ap, ◌∙◌, arith, length, sym}
use Rattle.std.specs.List.{concat, remove}
use Rattle.std.proofs.lemmas.List.{nil_from_length}
use Rattle.sb_blocks.specs.Blocks.{are_blocks, block_at}
use Rattle.sb_blocks.proofs.EditsOfOneBlock.{item_of_block, item_in_block, remove_block}
use Rattle.sb_blocks.proofs.EditsOfOneBlock.{remove_in_block, remove-set, left_in_block}
use Rattle.sb_blocks.proofs.BlocksStay.{size_of_block, remove_is_block, remove_stays, set_stays}
use Rattle.sb_blocks.proofs.changes.take_away.Goals as goal

pub returns-then-len-eq0-clause-value : goal.returns-then-len-eq0-clause-value
returns-then-len-eq0-clause-value c =
    item_of_block c.args.blocks.now.items c.args.place c.take_item-x.result c.requires.place
    c.take_item-x.ensures.value

pub returns-then-len-eq0-clause-rest : goal.returns-then-len-eq0-clause-rest
returns-then-len-eq0-clause-rest c =
    let blocks = c.args.blocks.now.items in
    let place = c.args.place in
    let rest = remove (block_at blocks place.block) place.at in
    let within = item_in_block blocks place.block place.at c.requires.place in
    let left = left_in_block blocks place.block rest c.take_item-x.new.blocks.items c.index.result.now
    within c.take_item-x.ensures.block c.index.ensures in
    let none = nil_from_length rest
    (sym (ap length left) ∙ sym c.len.ensures ∙ c.if-len-eq0.true) in
    ap concat
    (c.remove.ensures.items ∙ ap (λ l. remove l place.block) c.take_item-x.ensures.block
    ∙ remove-set blocks place.block rest)
    ∙ remove_block blocks place within c.requires.place none

pub returns-then-len-eq0-clause-blocks : goal.returns-then-len-eq0-clause-blocks
returns-then-len-eq0-clause-blocks c =
    let blocks = c.args.blocks.now.items in
    let place = c.args.place in
    ap are_blocks
    (c.remove.ensures.items ∙ ap (λ l. remove l place.block) c.take_item-x.ensures.block
    ∙ remove-set blocks place.block (remove (block_at blocks place.block) place.at))
    ∙ remove_stays blocks place.block c.requires.blocks

pub returns-else-len-eq0-clause-value : goal.returns-else-len-eq0-clause-value
returns-else-len-eq0-clause-value c =
    item_of_block c.args.blocks.now.items c.args.place c.take_item-x.result c.requires.place
    c.take_item-x.ensures.value

pub returns-else-len-eq0-clause-rest : goal.returns-else-len-eq0-clause-rest
returns-else-len-eq0-clause-rest c =
    let blocks = c.args.blocks.now.items in
    ap concat c.take_item-x.ensures.block
    ∙ remove_in_block blocks c.args.place
    (item_in_block blocks c.args.place.block c.args.place.at c.requires.place) c.requires.place

pub returns-else-len-eq0-clause-blocks : goal.returns-else-len-eq0-clause-blocks
returns-else-len-eq0-clause-blocks c =
    let blocks = c.args.blocks.now.items in
    let place = c.args.place in
    let rest = remove (block_at blocks place.block) place.at in
    let within = item_in_block blocks place.block place.at c.requires.place in
    let size = size_of_block blocks place.block c.requires.blocks within in
    let left = ap length
    (left_in_block blocks place.block rest c.take_item-x.new.blocks.items c.index.result.now
    within c.take_item-x.ensures.block c.index.ensures) in
    ap are_blocks c.take_item-x.ensures.block
    ∙ set_stays blocks place.block rest c.requires.blocks
    (remove_is_block (block_at blocks place.block) place.at c.requires.place size.1
    (omega (arith, left)))
