-- Sorted, and then one of each run of equals.
use Rattle.std.proofs.Common.{rules}
use Rattle.std.specs.Ordering.{int_cmp, eq_by_cmp}
use Rattle.std.proofs.lemmas.Cmp.{int_cmp_total}
use Rattle.std.proofs.lemmas.Fn.{dedup_same}
use Rattle.sb_walk.proofs.SortedOnce.{rising_of}
use Rattle.sb_walk.proofs.heights.each_once.Goals as goal

pub returns : goal.returns
returns c =
    rising_of int_cmp int_cmp_total c.args.list.items c.sort_unstable.new.self.items
    c.dedup_by.new.self.items c.sort_unstable.ensures.permutation c.sort_unstable.ensures.sorted
    (dedup_same _ (eq_by_cmp int_cmp) _ (λ x y b f x' y' k. search rules) _ _
    c.dedup_by.ensures.filtered)
