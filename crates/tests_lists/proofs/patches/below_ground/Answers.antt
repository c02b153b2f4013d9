use Rattle.tests_lists.proofs.TriedPatches.{below_is}
use Rattle.tests_lists.proofs.patches.below_ground.Goals as goal

pub invariant_of-result : goal.invariant_of-result
invariant_of-result c = record {
  is_patch = below_is c.new.result c.new-2.result c.new.ensures.value c.new-2.ensures.value;
}
