-- What stands there are the blocks as they were and the rooms so far.
use Rattle.std.proofs.Common.{◌≡◌, ◌++◌, map}
use Rattle.std.specs.List.{range_with_len}
use Rattle.sb_demo.specs.Blocks.{room}
use Rattle.sb_demo.proofs.blocks.push_rooms.Given as goal

abbrev pub invariant-loop-i : goal.invariant-loop-i
invariant-loop-i l = l.blocks ≡ l.initial.blocks ++ map (room l.n) (range_with_len 0 l.i)
