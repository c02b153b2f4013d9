-- The laws are their lemmas.
use Rattle.theory_parity.proofs.SolidOnTheLeft.LeftIsInside.{inside_if_left}
use Rattle.theory_parity.proofs.SolidOnTheLeft.NearAnEdge.{near_an_edge, even_to_the_right}
use Rattle.theory_parity.proofs.SolidOnTheLeft.OwnPoints.{own_from_within}
use Rattle.theory_parity.proofs.sides.inside_on_the_left.Goals as goal

-- inside on the left, outside on the right
pub returns-clause-near : goal.returns-clause-near
returns-clause-near g loops plan e e_in m m_is within = near_an_edge loops plan e e_in m m_is within

-- inside where it lies left of the edge
pub returns-clause-where_left : goal.returns-clause-where_left
returns-clause-where_left g loops plan e e_in m m_is within p p_is free =
    inside_if_left loops plan e e_in m (own_from_within e m m_is within) p p_is free

-- rays to the right and to the left
pub returns-clause-rays : goal.returns-clause-rays
returns-clause-rays g loops plan e e_in m m_is within r slanted =
    even_to_the_right loops plan e e_in m (own_from_within e m m_is within) r slanted
