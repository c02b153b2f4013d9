-- Loop by loop.
use Rattle.std.proofs.Common.{sym, subst, take, ◌+◌}
use Rattle.sb_loops.specs.Ways.{IsLeft, AreLeft}
use Rattle.sb_loops.proofs.LoopsLeft.{one_more_left}
use Rattle.sb_loops.proofs.normalising.all_left.Goals as goal

pub loop-points-preserved : goal.loop-points-preserved
loop-points-preserved c =
    let loops = c.as_slice-points-items.result.now in
    let i = c.loop-points.points-index in
    let left = rw c.in-Some.is at c.in_ok-left.ensures.left in
    subst (AreLeft (take (i + 1) loops)) (sym c.in_ok-push-in-Some.ensures.ok)
    (one_more_left loops i c.points-item.result c.loop-points.lefts c.in-Some.left
    c.loop-points-test.true c.points-item.is c.loop-points.invariant
    (subst (λ l. IsLeft l c.in-Some.left) c.as_slice.ensures left))
