-- What was passed is read behind the rest.
use Rattle.std.proofs.Common.{◌≡◌, take, drop, []}
use Rattle.theory_loops.specs.Normal.{read_from}
use Rattle.sb_loops.proofs.beginning.place_of.Given as goal

abbrev pub invariant-loop-k : goal.invariant-loop-k
invariant-loop-k l =
    read_from l.m (take l.k l.points) (drop l.k l.points) ≡ read_from l.m [] l.points
