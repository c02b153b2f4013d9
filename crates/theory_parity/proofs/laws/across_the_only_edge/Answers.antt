-- The law is its lemma.
use Rattle.theory_parity.proofs.Rays.BelowFlips.{below_flips}
use Rattle.theory_parity.proofs.laws.across_the_only_edge.Goals as goal

-- the parity flips
pub returns : goal.returns
returns g = record {
  flip = λ d u v m w es d_is u_in v_in m_in w_in low high free one.
      below_flips d u v m w d_is u_in v_in m_in w_in low high es free one;
}
