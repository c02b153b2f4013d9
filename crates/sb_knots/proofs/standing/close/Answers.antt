use Rattle.std.specs.List.{concat}
use Rattle.sb_knots.proofs.EditsOfIds.{closing_on, closing_done}
use Rattle.sb_knots.proofs.standing.close.Goals as goal

pub closing-preserved : goal.closing-preserved
closing-preserved c = record {
  ids = c.close_one.ensures.ids;
  closing = λ n within parted.
      let so_far = c.closing.invariant.closing n within parted in
      closing_on c.args.corners.now c.args.v n (concat c.args.standing.now)
      (concat c.closing.standing) (concat c.close_one.new.standing) so_far
      (c.close_one.ensures.taken n so_far.within so_far.parted c.closing-test.true);
}

pub returns-clause-closed : goal.returns-clause-closed
returns-clause-closed c n within parted =
    let so_far = c.closing.invariant.closing n within parted in
    closing_done c.args.corners.now c.args.v n (concat c.args.standing.now)
    (concat c.closing.standing) (concat c.close_one.new.standing) so_far
    (c.close_one.ensures.left n so_far.within so_far.parted c.closing-test.false)
