-- No space so far is shifted out of range.
use Rattle.std.proofs.Common.{IsTrue}
use Rattle.std.specs.List.{list_all}
use Rattle.sb_model.specs.Building.{is_shift}
use Rattle.tests_walk.proofs.rooms.spaces.Given as goal

abbrev pub invariant-rooms : goal.invariant-rooms
invariant-rooms l = IsTrue (list_all (λ s. is_shift s.frame.shift) l.list)
