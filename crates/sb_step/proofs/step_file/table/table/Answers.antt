use Rattle.sb_step.proofs.Names.{rules, subst, IsPermutation, IsNonDecreasingBy-from_sort, answers_always, Row}
use Rattle.sb_step.proofs.step_file.table.table.Goals as goal

pub returns : goal.returns
returns c = record {
  are = subst (λ rows. IsPermutation rows c.sort_unstable_by_key.new.self.items)
      c.in_ok-rows.ensures c.sort_unstable_by_key.ensures.permutation;
  rises = IsNonDecreasingBy-from_sort (λ (row : Row). row.number) _
      (c.sort_unstable_by_key.ensures.sorted (λ row. row.number)
      (answers_always _ _ _ (λ f a r g h. search rules)));
  below = λ k. search (rules, c.type_inv.numbers k);
}
