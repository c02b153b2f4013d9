-- Room changes nothing of what is created.
use Rattle.std.proofs.Common.{◌∙◌}
use Rattle.sb_shelf.specs.declared.shelf.Out.TheVariants.{Ifc, Idf, Report}
use Rattle.tests_program.proofs.tests.shelf.Goals as goal

pub returns : goal.returns
returns c =
    let same = c.in_ok-reserve.ensures.same.is_created in
    let files = c.new-shelf.ensures.files in
    record {
      ifc = same Ifc ∙ files.ifc;
      idf = same Idf ∙ files.idf;
      report = same Report ∙ files.report;
    }
