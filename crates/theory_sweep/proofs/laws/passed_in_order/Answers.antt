-- The law is its lemma.
use Rattle.theory_sweep.proofs.PassedInOrder.{passed_first}
use Rattle.theory_sweep.proofs.laws.passed_in_order.Goals as goal

pub returns : goal.returns
returns g = record {
  passed = λ a b a_in b_in before. passed_first a b a_in b_in before;
}
