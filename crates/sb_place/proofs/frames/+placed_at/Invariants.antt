use Rattle.sb_place.proofs.frames.+placed_at.Given as goal

abbrev pub decreases-placed_at : goal.decreases-placed_at
decreases-placed_at l = l.left
