use Rattle.sb_place.proofs.ChainsAreJudged.{placed_is}
use Rattle.sb_place.proofs.frames.frame_of.Goals as goal

pub returns : goal.returns
returns c =
    placed_is c.args.file.now c.args.placement c.args.building c.args.unit
    c.in_ok-placed_at.field-0 c.frame.result c.in_ok-placed_at.ensures (c.frame.ensures.read c.args.unit)
