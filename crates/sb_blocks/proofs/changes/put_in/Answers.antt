-- A block with room takes one item more.
use Rattle.std.proofs.Common.{◌≡◌, ap, ◌∙◌, arith, [], length, Ok, Err, OnOk, OnErr, Result}
use Rattle.std.specs.List.{concat, insert}
use Rattle.std.proofs.lemmas.List.{get_or_read}
use Rattle.std.proofs.lemmas.Result.{on_ok_weaker, on_err_weaker}
use Rattle.sb_blocks.specs.Blocks.{are_blocks, block_at}
use Rattle.sb_blocks.proofs.EditsOfOneBlock.{insert_in_block}
use Rattle.sb_blocks.proofs.BlocksStay.{set_stays, insert_is_block}
use Rattle.sb_blocks.proofs.changes.put_in.Goals as goal

either : {T E P : Type 0} (r : Result T E) → OnOk r P → OnErr r P → P
either (Ok x) ok err = ok
either (Err e) ok err = err

pub returns-then-len-lt-LONGEST-clause-ok : goal.returns-then-len-lt-LONGEST-clause-ok
returns-then-len-lt-LONGEST-clause-ok c =
    on_ok_weaker c.put_in_room.result
    (λ put. ap concat put
    ∙ insert_in_block c.args.blocks.now.items c.args.place c.requires.block c.args.x
    c.requires.place)
    c.put_in_room.ensures.ok

pub returns-then-len-lt-LONGEST-clause-blocks : goal.returns-then-len-lt-LONGEST-clause-blocks
returns-then-len-lt-LONGEST-clause-blocks c =
    let block : c.index.result.now ≡ block_at c.args.blocks.now.items c.args.place.block =
    get_or_read c.args.blocks.now.items c.args.place.block c.index.result.now c.requires.block
    c.index.ensures [] in
    let size = ap length block in
    let is = insert_is_block (block_at c.args.blocks.now.items c.args.place.block) c.args.place.at
    c.args.x c.requires.place (omega (arith, size)) in
    either c.put_in_room.result
    (on_ok_weaker c.put_in_room.result
    (λ put. ap are_blocks put
    ∙ set_stays c.args.blocks.now.items c.args.place.block
    (insert (block_at c.args.blocks.now.items c.args.place.block) c.args.place.at c.args.x)
    c.requires.blocks is)
    c.put_in_room.ensures.ok)
    (on_err_weaker c.put_in_room.result (λ same. ap are_blocks same ∙ c.requires.blocks)
    c.put_in_room.ensures.err)
