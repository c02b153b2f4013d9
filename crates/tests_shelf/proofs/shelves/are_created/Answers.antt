-- Creating the report creates no other output.
use Rattle.std.proofs.Common.{◌∙◌}
use Rattle.sb_shelf.specs.declared.shelf.Out.TheVariants.{Ifc}
use Rattle.tests_shelf.proofs.shelves.are_created.Goals as goal

pub create-requires-then-is_ok : goal.create-requires-then-is_ok
create-requires-then-is_ok g c =
    (c.create.ensures.meets.keeps.others Ifc (λ same. cc)).is_created
    ∙ c.new-shelf.ensures.files.ifc
