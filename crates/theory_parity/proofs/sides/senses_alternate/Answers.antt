-- The law is its lemma.
use Rattle.theory_parity.proofs.SolidOnTheLeft.SensesAlternate.{senses_alternate}
use Rattle.theory_parity.proofs.sides.senses_alternate.Goals as goal

-- along and against
pub returns : goal.returns
returns g = record {
  senses = λ loops plan d u d_is u_in e e_in reaches no_end.
      senses_alternate d u d_is u_in e reaches no_end loops plan e_in;
}
