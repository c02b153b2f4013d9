use Rattle.std.proofs.Common.{◌+◌, ◌≤◌}
use Rattle.bench_views.proofs.reading.read.Given as goal

abbrev pub invariant-numbers : goal.invariant-numbers
invariant-numbers l = l.seen.points + l.seen.placements ≤ l.number-index
