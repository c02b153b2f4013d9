use Rattle.tests_model.proofs.TriedPatches.{side_is}
use Rattle.tests_model.proofs.patches.slanted_side.Goals as goal

pub invariant_of-result : goal.invariant_of-result
invariant_of-result c = record {
  is_patch = side_is c.new.result c.new-2.result c.new.ensures.value c.new-2.ensures.value;
}
