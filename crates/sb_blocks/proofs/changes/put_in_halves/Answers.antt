-- The two halves are the block with the item put in.
use Rattle.std.proofs.Common.{◌≡◌, ap, ◌∙◌, [], set, add-one}
use Rattle.std.specs.List.{concat, insert}
use Rattle.std.proofs.lemmas.List.{get_or_read}
use Rattle.sb_blocks.specs.Blocks.{are_blocks, block_at}
use Rattle.sb_blocks.proofs.EditsOfOneBlock.{insert_in_halves}
use Rattle.sb_blocks.proofs.BlocksStay.{halves_stay}
use Rattle.sb_blocks.proofs.changes.put_in_halves.Goals as goal

pub returns-clause-ok : goal.returns-clause-ok
returns-clause-ok c =
    let block : c.index.result.now ≡ block_at c.args.blocks.now.items c.args.place.block =
    get_or_read c.args.blocks.now.items c.args.place.block c.index.result.now c.requires.block
    c.index.ensures [] in
    let halves = c.in_ok-front.ensures.items
    ∙ ap (λ l. insert l c.args.place.at c.args.x) block in
    ap (λ l. concat (set l c.args.place.block c.in_ok-front.front))
    (c.in_ok-insert.ensures.items
    ∙ ap (λ n. insert c.args.blocks.now.items n c.in_ok-front.back) (add-one c.args.place.block))
    ∙ insert_in_halves c.args.blocks.now.items c.args.place c.requires.block c.args.x
    c.in_ok-front.front c.in_ok-front.back c.requires.place halves

pub returns-clause-blocks : goal.returns-clause-blocks
returns-clause-blocks c =
    ap (λ l. are_blocks (set l c.args.place.block c.in_ok-front.front))
    (c.in_ok-insert.ensures.items
    ∙ ap (λ n. insert c.args.blocks.now.items n c.in_ok-front.back) (add-one c.args.place.block))
    ∙ halves_stay c.args.blocks.now.items c.args.place.block c.in_ok-front.front c.in_ok-front.back
    c.requires.blocks c.in_ok-front.ensures.front c.in_ok-front.ensures.back
