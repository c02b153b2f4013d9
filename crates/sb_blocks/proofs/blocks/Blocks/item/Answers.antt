-- The item of a block is that of the flat list.
use Rattle.std.proofs.Common.{ap, ◌∙◌, arith, [], length, get_or, sym, Some}
use Rattle.std.proofs.lemmas.List.{get_or_read}
use Rattle.std.proofs.lemmas.Option.{slice_get-get_or}
use Rattle.sb_blocks.specs.Blocks.{block_at}
use Rattle.sb_blocks.proofs.EditsOfOneBlock.{get_in_block, item_in_block}
use Rattle.sb_blocks.proofs.blocks.Blocks.item.Goals as goal

pub returns : goal.returns
returns c =
    let within = item_in_block c.args.self.now c.args.place.block c.args.place.at c.requires in
    let same = ap length c.self.view_is in
    let block = c.as_slice.ensures
    ∙ get_or_read c.self.inside.blocks.items c.args.place.block c.index.result.now
    (omega (arith, same, within)) c.index.ensures []
    ∙ ap (λ l. block_at l c.args.place.block) c.self.view_is in
    get_in_block c.args.self.now c.args.place within c.requires
    ∙ slice_get-get_or (block_at c.args.self.now c.args.place.block) c.args.place.at 0 c.requires
    ∙ ap (λ l. Some (get_or l c.args.place.at 0)) (sym block)
