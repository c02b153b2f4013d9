use Rattle.sb_model.specs.declared.faces.face.FaceKind.TheVariants as kind
use Rattle.tests_lists.proofs.TriedPatches.{level_is}
use Rattle.tests_lists.proofs.patches.on_ceiling.Goals as goal

pub invariant_of-result : goal.invariant_of-result
invariant_of-result c = record {
  is_patch = level_is kind.Top c.whole.result c.whole-2.result c.near.result c.far.result
      c.whole.ensures c.whole-2.ensures c.near.ensures.value c.far.ensures.value
      c.near.ensures.of_top c.far.ensures.of_top;
}
