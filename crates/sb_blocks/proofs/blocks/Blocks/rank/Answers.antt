-- No place is behind the end.
use Rattle.std.proofs.Common.{ap, ◌∙◌, arith, length, take}
use Rattle.std.specs.List.{concat}
use Rattle.sb_blocks.proofs.EditsOfOneBlock.{rank_within}
use Rattle.sb_blocks.proofs.PlacesInOrder.{items_within}
use Rattle.sb_blocks.proofs.blocks.Blocks.rank.Goals as goal

pub count_items-requires : goal.count_items-requires
count_items-requires c =
    let items = ap (λ l. length (concat (take c.args.place.block l)))
    c.as_slice-blocks.ensures.value in
    let within = items_within c.self.inside.blocks.items c.args.place.block in
    let len = c.self.invariant.1 in
    omega (arith, items, within, len)

pub overflow_add-result : goal.overflow_add-result
overflow_add-result c =
    let items = ap (λ l. length (concat (take c.args.place.block l)))
    (c.as_slice-blocks.ensures.value ∙ c.self.view_is) in
    let within = rank_within c.args.self.now c.args.place c.requires in
    let whole = ap (λ l. length (concat l)) c.self.view_is in
    let len = c.self.invariant.1 in
    omega (arith, items, within, whole, len)
