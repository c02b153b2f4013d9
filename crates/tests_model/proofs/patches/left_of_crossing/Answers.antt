use Rattle.tests_model.proofs.TriedPatches.{left_is}
use Rattle.tests_model.proofs.patches.left_of_crossing.Goals as goal

pub invariant_of-result : goal.invariant_of-result
invariant_of-result c = record {
  is_patch = left_is c.top.result.kind c.new.result c.new-2.result c.along_x.result c.steep.result c.top.ensures
      c.new.ensures.value c.new-2.ensures.value c.along_x.ensures.value c.steep.ensures.value
      c.along_x.ensures.of_top c.steep.ensures.of_top;
}
