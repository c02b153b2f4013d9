-- What is put into the second half is put in at its place in the whole.
use Rattle.std.proofs.Common.{ap, ap₂, ◌∙◌, ◌++◌, ◌-◌, take, drop, arith}
use Rattle.std.specs.List.{insert}
use Rattle.sb_blocks.proofs.EditsOfOneBlock.{halves_high}
use Rattle.sb_blocks.proofs.block.Block.halves_with.Goals as goal

pub returns-in_ok-with-2-clause-items : goal.returns-in_ok-with-2-clause-items
returns-in_ok-with-2-clause-items c =
    let items = c.as_slice.ensures.value ∙ c.self.view_is in
    ap₂ (λ low high. low ++ high)
    (c.in_ok-block_of-2.ensures ∙ c.split_at.ensures.front ∙ ap (take 512) items)
    (c.in_ok-with-2.ensures
    ∙ ap (λ l. insert l (c.args.at - 512) c.args.x) (c.split_at.ensures.back ∙ ap (drop 512) items))
    ∙ halves_high c.args.self.now 512 c.args.at c.args.x (omega arith) (omega arith)
