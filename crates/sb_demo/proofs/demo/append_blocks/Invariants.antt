-- What stands there is the text as it was and that of the blocks so far.
use Rattle.std.proofs.Common.{◌≡◌, ◌++◌, take}
use Rattle.std.specs.List.{flat_map}
use Rattle.sb_demo.specs.BlockTexts.{block_text}
use Rattle.sb_demo.proofs.demo.append_blocks.Given as goal

abbrev pub invariant-loop-block : goal.invariant-loop-block
invariant-loop-block l =
    l.text ≡ l.initial.text ++ flat_map block_text (take l.block-index l.blocks)
