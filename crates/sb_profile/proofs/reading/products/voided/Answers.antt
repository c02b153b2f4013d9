use Rattle.std.proofs.Common.{arith}
use Rattle.std.proofs.lemmas.Grind.{common_steps}
use Rattle.std.proofs.lemmas.List.Elements.{filter_more}
use Rattle.sb_profile.proofs.reading.products.voided.Goals as goal

pub openings-preserved : goal.openings-preserved
openings-preserved c =
    grind (arith, common_steps, filter_more, c.openings.invariant, c.in_ok-keep.ensures, c.contains_key-has_element.ensures)
