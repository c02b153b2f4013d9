use Rattle.std.proofs.Common.{◌≡◌, ◌++◌, take}
use Rattle.sb_profile.specs.Steps.Read.{starts_of}
use Rattle.sb_profile.proofs.following.leading.add_starts.Given as goal

abbrev pub invariant-products : goal.invariant-products
invariant-products l =
    l.starts.items
    ≡ l.fn.starts.items ++ starts_of l.building (take l.product-index l.products)
