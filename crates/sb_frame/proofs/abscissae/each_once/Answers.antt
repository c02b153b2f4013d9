-- Sorted, and then one of each run of equals.
use Rattle.std.proofs.Common.{rules}
use Rattle.std.specs.Ordering.{is_lt, eq_by_cmp}
use Rattle.std.proofs.lemmas.Fn.{always_returns_same, dedup_same}
use Rattle.std.proofs.lemmas.List.Sorted.{ranks_by}
use Rattle.sb_frame.specs.declared.abscissa.Abscissa.{Abscissa}
use Rattle.sb_frame.specs.Abscissae.{order_of_abscissae}
use Rattle.sb_frame.proofs.Along.AbscissaeFound.{abscissae_total}
use Rattle.sb_frame.proofs.Orders.SortedOnce.{rising_of}
use Rattle.sb_frame.proofs.abscissae.each_once.Goals as goal

pub returns : goal.returns
returns c =
    rising_of order_of_abscissae abscissae_total c.args.list.items
    c.sort_unstable_by.new.self.items c.dedup_by.new.self.items c.sort_unstable_by.ensures.permutation
    (c.sort_unstable_by.ensures.sorted (λ a b. is_lt (order_of_abscissae a b))
    (ranks_by abscissae_total (λ (a : Abscissa). a))
    (always_returns_same _ _ _ (λ a r f k. search rules)))
    (dedup_same _ (eq_by_cmp order_of_abscissae) _ (λ x y b f x' y' k. search rules) _ _
    c.dedup_by.ensures.filtered)
