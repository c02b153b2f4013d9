-- Opening the model creates no output.
use Rattle.std.proofs.Common.{◌∙◌}
use Rattle.sb_shelf.specs.declared.shelf.Out.TheVariants.{Report}
use Rattle.tests_shelf.proofs.shelves.is_created_beside.Goals as goal

pub create-requires : goal.create-requires
create-requires g c =
    (c.open.ensures.meets.keeps.outs Report).is_created ∙ c.new-shelf.ensures.files.report
