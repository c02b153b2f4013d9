-- The closure compares patches.
use Rattle.std.proofs.Common.{rules}
use Rattle.std.proofs.lemmas.List.Sorted.{answers_always}
use Rattle.sb_join.proofs.RunsInOrder.{patches_ranked, sorted_is_listed}
use Rattle.sb_join.proofs.orders.sort_patches.Goals as goal

pub returns-clause-in_order : goal.returns-clause-in_order
returns-clause-in_order c =
    sorted_is_listed _
    (c.sort_unstable_by.ensures.sorted _ patches_ranked
    (answers_always _ _ _ (λ f a r g called. search rules)))
