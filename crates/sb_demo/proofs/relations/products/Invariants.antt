-- What stands there are the products of the blocks so far.
use Rattle.std.proofs.Common.{◌≡◌, map}
use Rattle.std.specs.List.{range_with_len}
use Rattle.sb_demo.specs.Numbering.{product_number}
use Rattle.sb_demo.proofs.relations.products.Given as goal

abbrev pub invariant-loop-i : goal.invariant-loop-i
invariant-loop-i l = l.products ≡ map product_number (range_with_len l.place l.i)
