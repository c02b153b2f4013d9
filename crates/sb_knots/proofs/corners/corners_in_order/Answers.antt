use Rattle.std.proofs.Common.{rules, subst, IsPermutation}
use Rattle.std.proofs.lemmas.List.Sorted.{IsNonDecreasingBy-from_sort, answers_always}
use Rattle.theory_sweep.specs.Corners.{Corner}
use Rattle.sb_knots.specs.Steps.{key_of}
use Rattle.sb_knots.proofs.corners.corners_in_order.Goals as goal

pub returns-clause-are : goal.returns-clause-are
returns-clause-are c =
    subst (λ list. IsPermutation list c.sort_unstable_by_key.new.self.items) c.in_ok-list.ensures
    c.sort_unstable_by_key.ensures.permutation

pub returns-clause-sorted : goal.returns-clause-sorted
returns-clause-sorted c =
    IsNonDecreasingBy-from_sort (λ (t : Corner). key_of t) _
    (c.sort_unstable_by_key.ensures.sorted (λ t. key_of t)
    (answers_always _ _ _ (λ f a r g h. search rules)))
