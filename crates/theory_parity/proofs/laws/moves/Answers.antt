-- The law is its lemma.
use Rattle.theory_parity.proofs.FromPointToPoint.Moves.{moves}
use Rattle.theory_parity.proofs.laws.moves.Goals as goal

-- one answer
pub returns : goal.returns
returns g = record { moves = λ loops p q p_is q_is clear. moves loops p q p_is q_is clear }
