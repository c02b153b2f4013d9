-- (1, 0) is a direction.
use Rattle.sb_frame.proofs.Along.DirectionsAre.{x_is_direction}
use Rattle.sb_frame.proofs.sides.headings.Goals as goal

pub invariant_of-push : goal.invariant_of-push
invariant_of-push c = record { is_direction = x_is_direction }
