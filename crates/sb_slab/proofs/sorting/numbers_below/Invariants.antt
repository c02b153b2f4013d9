-- The numbers below i.
use Rattle.std.proofs.Common.{◌≡◌}
use Rattle.sb_slab.specs.Sorted.{numbers_to}
use Rattle.sb_slab.proofs.sorting.numbers_below.Given as goal

abbrev pub invariant-numbers : goal.invariant-numbers
invariant-numbers l = l.list.items ≡ numbers_to l.i
