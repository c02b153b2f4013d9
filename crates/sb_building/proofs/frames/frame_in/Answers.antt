use Rattle.sb_building.proofs.frames.frame_in.Goals as goal

pub returns-in-Some-clause-frame : goal.returns-in-Some-clause-frame
returns-in-Some-clause-frame c =
    c.frame.ensures.whole c.args.file.now c.args.building c.args.placement c.args.unit
    (c.in_ok-placed.ensures.kept c.in-Some.placed c.in-Some.is)
