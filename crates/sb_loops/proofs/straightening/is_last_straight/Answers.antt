-- The last two points are at the last two places.
use Rattle.std.proofs.Common.{◌∙◌, sym, ap, not, pos}
use Rattle.theory_plans.specs.Rectangles.{corner}
use Rattle.sb_loops.proofs.StackPass.{last_straight_at}
use Rattle.sb_loops.proofs.straightening.is_last_straight.Goals as goal

pub returns : goal.returns
returns c =
    ap not c.is_bent.ensures
    ∙ sym
    (last_straight_at c.args.kept.now c.args.next (corner (pos 0) (pos 0)) c.if-len-lt2.false)
