-- The laws are their lemmas.
use Rattle.theory_parity.proofs.Rays.InsideByBelow.{inside_by_below, forward_is_way, below_is_crossed}
use Rattle.theory_parity.proofs.laws.inside_along_any_direction.Goals as goal

-- along each vector that is not 0
pub returns-clause-along_each : goal.returns-clause-along_each
returns-clause-along_each g d p loops d_is p_is = inside_by_below d p d_is p_is loops

-- so along each direction
pub returns-clause-along_forward : goal.returns-clause-along_forward
returns-clause-along_forward g d p loops ahead p_is =
    inside_by_below d p (forward_is_way d ahead) p_is loops

-- along (0, 1)
pub returns-clause-along_y : goal.returns-clause-along_y
returns-clause-along_y g p e p_is = below_is_crossed p e p_is
