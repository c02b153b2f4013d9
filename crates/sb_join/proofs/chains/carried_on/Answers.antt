-- The two in one are a patch.
use Rattle.sb_join.proofs.TwoInOne.{carried_is_patch}
use Rattle.sb_join.proofs.chains.carried_on.Goals as goal

pub invariant_of-patch : goal.invariant_of-patch
invariant_of-patch c = record { is_patch = carried_is_patch c.args.run c.args.next c.requires }
