use Rattle.sb_building.proofs.frames.+placed_from.Given as goal

abbrev pub decreases-placed_from : goal.decreases-placed_from
decreases-placed_from l = l.left
