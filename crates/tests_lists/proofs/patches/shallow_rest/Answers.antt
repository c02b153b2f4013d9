use Rattle.tests_lists.proofs.TriedPatches.{rest_is}
use Rattle.tests_lists.proofs.patches.shallow_rest.Goals as goal

pub invariant_of-result : goal.invariant_of-result
invariant_of-result c = record {
  is_patch = rest_is c.new.result c.new-2.result c.new.ensures.value c.new-2.ensures.value;
}
