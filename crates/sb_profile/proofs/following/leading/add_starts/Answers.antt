use Rattle.std.proofs.Common.{ap, ◌∙◌, ◌++◌}
use Rattle.std.specs.Prelude.{option_to_list}
use Rattle.sb_profile.specs.Following.{below}
use Rattle.sb_profile.proofs.ListsOfNumbers.{filter_map_next}
use Rattle.sb_profile.proofs.following.leading.add_starts.Goals as goal

pub products-preserved : goal.products-preserved
products-preserved c =
    filter_map_next (λ p. below c.args.building p.placement) c.args.products.now
    c.products.product-index _ c.args.starts.now.items _ _ c.products-test.true
    c.products.invariant
    (c.in_ok-add_start.ensures
    ∙ ap (λ o. c.products.starts.items ++ option_to_list o) c.below.ensures)
