use Rattle.std.proofs.Common.{length, arith, ◌≡◌, ◌+◌}
use Rattle.std.specs.Prelude.{min}
use Rattle.sb_solid.proofs.Seen.EndsSeen.{count_more}
use Rattle.sb_solid.proofs.judging.points_in.Goals as goal

pub loops-preserved : goal.loops-preserved
loops-preserved c =
    let size : c.len.result ≡ length c.points-item.result = c.len.ensures in
    let next : c.saturating_add-count.result ≡ min (c.loops.count + length c.points-item.result) 18446744073709551615 =
    omega (arith, size) in
    count_more c.as_slice-points-items.result.now c.loops.points-index c.points-item.result c.loops.count
    c.saturating_add-count.result c.loops-test.true c.points-item.is c.loops.invariant next
