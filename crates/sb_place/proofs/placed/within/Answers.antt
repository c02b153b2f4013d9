use Rattle.sb_place.proofs.ShiftsFit.{origin_is_framed, shift_is_framed, placed_fits}
use Rattle.sb_place.proofs.TurnsStandUpright.{within_is_quarter}
use Rattle.sb_place.proofs.placed.within.Goals as goal

pub apply-requires-clause-point_in : goal.apply-requires-clause-point_in
apply-requires-clause-point_in c = origin_is_framed c.args.inner.shift c.requires.inner_in

pub apply-requires-clause-shift_in : goal.apply-requires-clause-shift_in
apply-requires-clause-shift_in c =
    shift_is_framed c.args.depth c.args.outer.shift c.requires.few c.requires.outer_in

pub returns-clause-fits : goal.returns-clause-fits
returns-clause-fits c =
    rw c.apply.ensures
    (placed_fits c.args.outer.turn c.args.depth c.args.outer.shift c.args.inner.shift
    c.requires.outer_upright c.requires.inner_in c.requires.outer_in)

pub returns-clause-upright : goal.returns-clause-upright
returns-clause-upright c =
    rw c.then.ensures.value
    (within_is_quarter c.args.inner.turn c.args.outer.turn c.requires.inner_upright
    c.requires.outer_upright)
