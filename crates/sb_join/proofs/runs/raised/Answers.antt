-- The two in one are a patch, with the walk of both.
use Rattle.std.proofs.Common.{ap}
use Rattle.sb_join.proofs.TwoInOne.{raised_is_patch, same_walk, strip_with}
use Rattle.sb_join.proofs.runs.raised.Goals as goal

pub invariant_of-patch : goal.invariant_of-patch
invariant_of-patch c =
    record { is_patch = raised_is_patch c.args.cell.now c.args.run c.requires }

pub returns : goal.returns
returns c =
    ap
    (strip_with c.args.cell.now.patch.face c.args.cell.now.patch.low c.args.cell.now.patch.high
    c.args.cell.now.patch.lower c.args.run.patch.upper)
    (same_walk c.args.cell.now c.args.run c.requires)
