use Rattle.std.proofs.Common.{◌≡◌, ℕ, nat_eq, take}
use Rattle.std.specs.List.{list_any}
use Rattle.std.specs.Ordering.{nat_cmp}
use Rattle.std.specs.BTreeSet.{contains}
use Rattle.sb_profile.proofs.reading.products.numbers_of.Given as goal

abbrev pub invariant-products : goal.invariant-products
invariant-products l =
    (q : ℕ) → contains nat_cmp l.numbers q
    ≡ list_any (λ p. nat_eq q p.number) (take l.product-index l.products)
