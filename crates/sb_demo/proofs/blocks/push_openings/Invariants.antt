-- What stands there are the blocks as they were and the openings so far.
use Rattle.std.proofs.Common.{◌≡◌, ◌++◌, map}
use Rattle.std.specs.List.{range_with_len}
use Rattle.sb_demo.specs.Blocks.{opening}
use Rattle.sb_demo.proofs.blocks.push_openings.Given as goal

abbrev pub invariant-loop-i : goal.invariant-loop-i
invariant-loop-i l = l.blocks ≡ l.initial.blocks ++ map (opening l.n) (range_with_len 0 l.i)
