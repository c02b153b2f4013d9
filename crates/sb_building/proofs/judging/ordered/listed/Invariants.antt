-- The products so far, and those that are left, are all.
use Rattle.std.proofs.Common.{◌≡◌, ◌++◌}
use Rattle.std.specs.Map.{values_of}
use Rattle.sb_building.proofs.judging.ordered.listed.Given as goal

abbrev pub invariant-products : goal.invariant-products
invariant-products l = l.list.items ++ values_of l.product-iterator ≡ values_of l.by_number.entries
