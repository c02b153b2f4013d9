-- The neighbours of the first point are at the last place and the second.
use Rattle.std.proofs.Common.{◌∙◌, sym, ap, not, pos}
use Rattle.theory_plans.specs.Rectangles.{corner}
use Rattle.sb_loops.proofs.StackPass.{first_straight_at}
use Rattle.sb_loops.proofs.straightening.is_first_straight.Goals as goal

pub returns : goal.returns
returns c =
    ap not c.is_bent.ensures
    ∙ sym (first_straight_at c.args.left.now (corner (pos 0) (pos 0)) c.if-len-lt2.false)
