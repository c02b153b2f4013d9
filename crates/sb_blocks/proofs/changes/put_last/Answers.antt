-- Behind the last item of the last block is the end.
use Rattle.std.proofs.Common.{ap, ◌∙◌, arith, [], length, ◌-◌}
use Rattle.std.proofs.lemmas.List.{get_or_read}
use Rattle.std.proofs.lemmas.Result.{on_ok_weaker}
use Rattle.sb_blocks.proofs.EditsOfOneBlock.{insert_behind_last}
use Rattle.sb_blocks.proofs.changes.put_last.Goals as goal

pub returns-else-count-eq0-clause-ok : goal.returns-else-count-eq0-clause-ok
returns-else-count-eq0-clause-ok c =
    let last = get_or_read c.args.blocks.now.items (c.len-count.result - 1) c.index.result.now
    (omega arith) c.index.ensures [] in
    let size = ap length last in
    on_ok_weaker c.put_in.result
    (λ put. put
    ∙ insert_behind_last c.args.blocks.now.items
    (record { block = c.len-count.result - 1; at = c.len-at.result }) c.args.x (omega arith)
    (c.len-at.ensures ∙ size))
    c.put_in.ensures.ok
