-- Making room creates no output.
use Rattle.std.proofs.Common.{◌∙◌}
use Rattle.sb_shelf.specs.declared.shelf.Out.TheVariants.{Report}
use Rattle.tests_shelf.proofs.shelves.write_report.Goals as goal

pub create-requires : goal.create-requires
create-requires c = c.reserve.ensures.same.is_created Report ∙ c.in_ok-shelf.ensures
