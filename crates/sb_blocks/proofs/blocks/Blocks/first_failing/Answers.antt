-- The halving finds a place between items that pass and items that do not.
use Rattle.std.proofs.Common.{ap, ◌∙◌, arith, [], get_or, ◌<◌, length, sym, ◌-◌}
use Rattle.std.specs.List.{list_all, concat}
use Rattle.std.proofs.lemmas.List.{get_or_read}
use Rattle.sb_blocks.specs.Blocks.{are_blocks, block_at}
use Rattle.sb_blocks.specs.Places.{rank_of}
use Rattle.sb_blocks.proofs.SearchedPlaces.{IsBetween, all_of_block, is_between, parted_there}
use Rattle.sb_blocks.proofs.blocks.Blocks.first_failing.Given.{Over}
use Rattle.sb_blocks.proofs.blocks.Blocks.first_failing.Goals as goal

pub items_passed-at-requires : goal.items_passed-at-requires
items_passed-at-requires g c =
    let items = c.as_slice-blocks.ensures.value ∙ c.self.view_is in
    let size = ap length items in
    let block = c.as_slice.ensures
    ∙ get_or_read c.as_slice-blocks.result.now (c.blocks_passed-passed.result - 1)
    c.index-blocks-block.result (omega arith) c.index-blocks-block.is []
    ∙ ap (λ l. block_at l (c.blocks_passed-passed.result - 1)) items in
    ap (list_all (g.T.Test.can_test c.args.test.now)) block
    ∙ all_of_block (g.T.Test.can_test c.args.test.now) c.args.self.now
    (c.blocks_passed-passed.result - 1) (omega (arith, size)) c.requires

found : (g : Over) (c : goal.After-items_passed-at g)
    → IsBetween (g.T.Test.passes c.args.test.now) c.args.self.now
    (record { block = c.blocks_passed-passed.result - 1; at = c.items_passed-at.result })
found g c =
    let passes = g.T.Test.passes c.args.test.now in
    let count = c.blocks_passed-passed.result in
    let items = c.as_slice-blocks.ensures.value ∙ c.self.view_is in
    let size = ap length items in
    let some : 0 < count = omega arith in
    let block = c.as_slice.ensures
    ∙ get_or_read c.as_slice-blocks.result.now (count - 1) c.index-blocks-block.result (omega arith)
    c.index-blocks-block.is []
    ∙ ap (λ l. block_at l (count - 1)) items in
    is_between passes c.args.self.now count c.items_passed-at.result c.as_slice.result.now
    (ap are_blocks (sym c.self.view_is) ∙ c.self.invariant.0) some (omega (arith, size))
    (ap (λ l. passes (get_or (block_at l (count - 1)) 0 0)) (sym items)
    ∙ c.blocks_passed-passed.ensures.before some)
    (λ there. ap (λ l. passes (get_or (block_at l count) 0 0)) (sym items)
    ∙ c.blocks_passed-passed.ensures.behind (omega (arith, size, there)))
    block c.items_passed-at.ensures.within c.items_passed-at.ensures.before
    c.items_passed-at.ensures.behind

pub returns-clause-before : goal.returns-clause-before
returns-clause-before g c = (found g c).before

pub returns-clause-behind : goal.returns-clause-behind
returns-clause-behind g c = (found g c).behind

pub returns-clause-parted : goal.returns-clause-parted
returns-clause-parted g c n within part =
    let about = found g c in
    parted_there (g.T.Test.passes c.args.test.now) (concat c.args.self.now)
    (rank_of c.args.self.now
    (record { block = c.blocks_passed-passed.result - 1; at = c.items_passed-at.result })) n
    about.within within about.before about.behind part
