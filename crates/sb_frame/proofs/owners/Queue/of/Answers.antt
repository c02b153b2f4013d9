-- The numbers of each list of a model rise.
use Rattle.sb_frame.proofs.Products.TakenFirst.{rising_of_model}
use Rattle.sb_frame.proofs.owners.Queue.of.Goals as goal

pub invariant_of-result : goal.invariant_of-result
invariant_of-result c =
    rw (
      c.as_slice.ensures,
      c.as_slice-2.ensures,
      c.as_slice-3.ensures,
      c.spaces.ensures.value,
      c.elements.ensures.value,
      c.openings.ensures.value,
    ) (rising_of_model c.args.model.now c.spaces.ensures.is_building)
