-- The ends of patches can be compared.
use Rattle.sb_join.proofs.TwoInOne.{low_size}
use Rattle.sb_join.proofs.orders.order_of_runs.Goals as goal

pub compare-requires-clause-first_size : goal.compare-requires-clause-first_size
compare-requires-clause-first_size c = low_size c.args.a.now.patch

pub compare-requires-clause-second_size : goal.compare-requires-clause-second_size
compare-requires-clause-second_size c = low_size c.args.b.now.patch
