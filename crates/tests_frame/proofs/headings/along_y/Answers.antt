use Rattle.tests_frame.proofs.FourDirections.{along_y_is}
use Rattle.tests_frame.proofs.headings.along_y.Goals as goal

pub invariant_of-result : goal.invariant_of-result
invariant_of-result c = record { is_direction = along_y_is }
