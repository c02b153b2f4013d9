-- The stack and then the joint leave a bent loop, or fewer than three points.
use Rattle.std.proofs.Common.{sym, subst}
use Rattle.theory_loops.specs.Orders.{Becomes}
use Rattle.theory_loops.proofs.Orders.SameLoop.{becomes_through}
use Rattle.theory_loops.proofs.Orders.LeftInAnyOrder.{few_are_few}
use Rattle.sb_loops.specs.Ways.{IsLeft}
use Rattle.sb_loops.proofs.LoopsLeft.{left_from_least}
use Rattle.sb_loops.proofs.normalising.left_of.Goals as goal

pub returns-then-left-lt3-clause-few : goal.returns-then-left-lt3-clause-few
returns-then-left-lt3-clause-few c =
    few_are_few c.args.points.now c.closed-left.result.now
    (becomes_through c.in_ok-kept.ensures.becomes
    (subst (λ l. Becomes l c.closed-left.result.now) c.as_slice.ensures.value
    c.closed-left.ensures.becomes))
    c.if-left-lt3.true

pub returns-clause-left : goal.returns-clause-left
returns-clause-left c =
    subst (IsLeft c.args.points.now) (sym c.in_ok-left.ensures)
    (left_from_least c.args.points.now c.closed-left.result.now
    (becomes_through c.in_ok-kept.ensures.becomes
    (subst (λ l. Becomes l c.closed-left.result.now) c.as_slice.ensures.value
    c.closed-left.ensures.becomes))
    (c.closed-left.ensures.bent c.if-left-lt3.false))
