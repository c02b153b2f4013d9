use Rattle.sb_place.proofs.ShiftsFit.{below_fits}
use Rattle.sb_place.proofs.placed.frame_under.Goals as goal

pub returns-else-above-lt-MOST-clause-fits : goal.returns-else-above-lt-MOST-clause-fits
returns-else-above-lt-MOST-clause-fits c =
    below_fits c.args.above.now.depth c.args.above.now.frame.shift c.args.above.now.fits
