-- The places of the edges so far.
use Rattle.std.proofs.Common.{◌≡◌, take}
use Rattle.sb_slab.specs.Table.{places_of}
use Rattle.sb_slab.proofs.sorting.places.Given as goal

abbrev pub invariant-list : goal.invariant-list
invariant-list l = l.places ≡ places_of l.table (take l.i-index l.list)
