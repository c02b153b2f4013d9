-- A loop has as many edges as points.
use Rattle.std.proofs.Common.{arith}
use Rattle.sb_frame.proofs.Products.ReadInOrder.{edges_on-length}
use Rattle.sb_frame.proofs.reading.counted.Goals as goal

pub returns-then-len-most-clause-none : goal.returns-then-len-most-clause-none
returns-then-len-most-clause-none c =
    let more = edges_on-length c.args.loops.now c.loops.points-index c.points-item.result
    c.loops-test.true c.points-item.is in
    omega arith

pub loops-preserved : goal.loops-preserved
loops-preserved c = record {
  within = omega arith;
  all =
      let more = edges_on-length c.args.loops.now c.loops.points-index c.points-item.result
      c.loops-test.true c.points-item.is in
      omega arith;
}
