-- The first item of a block may be tested.
use Rattle.std.proofs.Common.{ap, ◌∙◌, arith, [], get_or, ◌<◌, length, ◌+◌, ◌-◌, ◌/◌}
use Rattle.std.proofs.lemmas.List.{get_or_read}
use Rattle.sb_blocks.proofs.SearchedPlaces.{first_of_block}
use Rattle.sb_blocks.proofs.search.blocks_passed.Goals as goal

pub is_passed-requires : goal.is_passed-requires
is_passed-requires g c =
    let middle = c.halves.low + ((c.halves.high - c.halves.low) / 2) in
    let within : middle < length c.args.blocks.now = omega arith in
    let block = c.as_slice.ensures
    ∙ get_or_read c.args.blocks.now middle c.index-blocks-middle.result within
    c.index-blocks-middle.is [] in
    ap (λ l. g.T.Test.can_test c.args.test.now (get_or l 0 0)) block
    ∙ first_of_block (g.T.Test.can_test c.args.test.now) c.args.blocks.now middle
    c.requires.blocks within c.requires.items
