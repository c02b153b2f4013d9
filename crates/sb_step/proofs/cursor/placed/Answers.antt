use Rattle.sb_step.proofs.Cursors.LeftIsUnique.{left_are_unique}
use Rattle.sb_step.proofs.cursor.placed.Goals as goal

pub invariant_of-result : goal.invariant_of-result
invariant_of-result c = record {
  unique = left_are_unique c.tokens_are_one_list.ensures.unique_from;
  left = (c.requires.0, ∣ c.requires.1 ∣₁);
}
