-- The items of the blocks so far are counted.
use Rattle.std.proofs.Common.{◌≡◌, length, take}
use Rattle.std.specs.List.{concat}
use Rattle.sb_blocks.proofs.reads.count_items.Given as goal

abbrev pub invariant-loop-block : goal.invariant-loop-block
invariant-loop-block l = l.count ≡ length (concat (take l.block-index l.blocks))
