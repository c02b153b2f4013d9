-- What stands there are the blocks as they were and the walls across so far.
use Rattle.std.proofs.Common.{◌≡◌, ◌++◌, map}
use Rattle.std.specs.List.{range_with_len}
use Rattle.sb_demo.specs.Blocks.{cross_wall}
use Rattle.sb_demo.proofs.blocks.push_cross_walls.Given as goal

abbrev pub invariant-loop-j : goal.invariant-loop-j
invariant-loop-j l = l.blocks ≡ l.initial.blocks ++ map cross_wall (range_with_len 0 l.j)
