use Rattle.tests_model.proofs.TriedPatches.{right_is}
use Rattle.tests_model.proofs.patches.right_of_crossing.Goals as goal

pub invariant_of-result : goal.invariant_of-result
invariant_of-result c = record {
  is_patch = right_is c.top.result.kind c.new.result c.new-2.result c.falling.result c.steep.result c.top.ensures
      c.new.ensures.value c.new-2.ensures.value c.falling.ensures.value c.steep.ensures.value
      c.falling.ensures.of_top c.steep.ensures.of_top;
}
