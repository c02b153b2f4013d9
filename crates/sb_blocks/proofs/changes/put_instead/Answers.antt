-- What is put into a block is put into the flat list.
use Rattle.std.proofs.Common.{ap, ◌∙◌, [], length, set}
use Rattle.std.specs.List.{concat}
use Rattle.std.proofs.lemmas.List.{get_or_read, length-set}
use Rattle.sb_blocks.specs.Blocks.{is_block}
use Rattle.sb_blocks.specs.Places.{rank_of}
use Rattle.sb_blocks.proofs.EditsOfOneBlock.{item_in_block, replace_in_block}
use Rattle.sb_blocks.proofs.BlocksStay.{set_is_block, set_stays}
use Rattle.sb_blocks.proofs.changes.put_instead.Goals as goal

pub returns-clause-flat : goal.returns-clause-flat
returns-clause-flat c =
    let within = item_in_block c.args.blocks.now.items c.args.place.block c.args.place.at
    c.requires.place in
    let block = get_or_read c.args.blocks.now.items c.args.place.block c.index_mut.result.now within
    c.index_mut.ensures.value [] in
    ap (λ l. concat (set c.args.blocks.now.items c.args.place.block l))
    (c.replace.ensures ∙ ap (λ l. set l c.args.place.at c.args.x) block)
    ∙ replace_in_block c.args.blocks.now.items c.args.place within c.args.x c.requires.place

pub returns-clause-count : goal.returns-clause-count
returns-clause-count c =
    let within = item_in_block c.args.blocks.now.items c.args.place.block c.args.place.at
    c.requires.place in
    let block = get_or_read c.args.blocks.now.items c.args.place.block c.index_mut.result.now within
    c.index_mut.ensures.value [] in
    ap length
    (ap (λ l. concat (set c.args.blocks.now.items c.args.place.block l))
    (c.replace.ensures ∙ ap (λ l. set l c.args.place.at c.args.x) block)
    ∙ replace_in_block c.args.blocks.now.items c.args.place within c.args.x c.requires.place)
    ∙ length-set (concat c.args.blocks.now.items) (rank_of c.args.blocks.now.items c.args.place)
    c.args.x

pub returns-clause-blocks : goal.returns-clause-blocks
returns-clause-blocks c =
    let within = item_in_block c.args.blocks.now.items c.args.place.block c.args.place.at
    c.requires.place in
    let block = get_or_read c.args.blocks.now.items c.args.place.block c.index_mut.result.now within
    c.index_mut.ensures.value [] in
    set_stays c.args.blocks.now.items c.args.place.block c.replace.new.self c.requires.blocks
    (ap is_block (c.replace.ensures ∙ ap (λ l. set l c.args.place.at c.args.x) block)
    ∙ set_is_block c.args.blocks.now.items c.args.place.block c.args.place.at c.args.x
    c.requires.blocks within)
