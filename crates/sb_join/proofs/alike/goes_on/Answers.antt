-- The ends of patches can be compared.
use Rattle.sb_join.proofs.TwoInOne.{low_size, high_size}
use Rattle.sb_join.proofs.alike.goes_on.Goals as goal

pub meets-requires-clause-first_size : goal.meets-requires-clause-first_size
meets-requires-clause-first_size c = high_size c.args.run.now.patch

pub meets-requires-clause-second_size : goal.meets-requires-clause-second_size
meets-requires-clause-second_size c = low_size c.args.next.now.patch
