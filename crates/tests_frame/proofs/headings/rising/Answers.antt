use Rattle.tests_frame.proofs.FourDirections.{rising_is}
use Rattle.tests_frame.proofs.headings.rising.Goals as goal

pub invariant_of-result : goal.invariant_of-result
invariant_of-result c = record { is_direction = rising_is }
