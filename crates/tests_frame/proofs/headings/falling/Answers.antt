use Rattle.tests_frame.proofs.FourDirections.{falling_is}
use Rattle.tests_frame.proofs.headings.falling.Goals as goal

pub invariant_of-result : goal.invariant_of-result
invariant_of-result c = record { is_direction = falling_is }
