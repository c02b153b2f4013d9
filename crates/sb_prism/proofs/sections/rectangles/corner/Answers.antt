use Rattle.std.proofs.lemmas.Int.{to_z-of_z}
use Rattle.sb_prism.proofs.ShiftsAreFramed.{shift_framed, corner_framed}
use Rattle.sb_prism.proofs.sections.rectangles.corner.Goals as goal

pub apply-requires-clause-point_in : goal.apply-requires-clause-point_in
apply-requires-clause-point_in c =
    simp (to_z-of_z, c.ranges.x, c.ranges.y) (corner_framed c.args.x c.args.y c.requires.x_in c.requires.y_in)

pub apply-requires-clause-shift_in : goal.apply-requires-clause-shift_in
apply-requires-clause-shift_in c = shift_framed c.args.frame.now.shift c.requires.size
