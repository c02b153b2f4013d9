-- The least of what was passed and what is left is the least of all.
use Rattle.std.proofs.Common.{◌≡◌, drop}
use Rattle.theory_loops.specs.Normal.{least_of}
use Rattle.sb_loops.proofs.beginning.least.Given as goal

abbrev pub invariant-loop-b : goal.invariant-loop-b
invariant-loop-b l =
    least_of l.least (drop l.b-index l.b-items) ≡ least_of l.initial.least l.b-items
