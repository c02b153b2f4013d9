-- The closure compares runs.
use Rattle.std.proofs.Common.{rules}
use Rattle.std.proofs.lemmas.List.Sorted.{answers_always}
use Rattle.sb_join.proofs.RunsInOrder.{runs_ranked, sorted_in_order}
use Rattle.sb_join.proofs.orders.sort_runs.Goals as goal

pub returns-clause-in_order : goal.returns-clause-in_order
returns-clause-in_order c =
    sorted_in_order _
    (c.sort_unstable_by.ensures.sorted _ runs_ranked
    (answers_always _ _ _ (λ f a r g called. search rules)))
