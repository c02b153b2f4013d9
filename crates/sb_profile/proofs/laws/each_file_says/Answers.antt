use Rattle.std.specs.Prelude.{option_copied}
use Rattle.sb_profile.proofs.EachFileSays.{said, says}
use Rattle.sb_profile.proofs.laws.each_file_says.Goals as goal

pub returns : goal.returns
returns c =
    let laws = c.one_list_of_parameters.ensures in (
      said laws.exist laws.unique c.args.file.now c.requires
          (option_copied c.schema-schema.result),
      says laws.exist laws.unique c.args.file.now c.requires
          (option_copied c.schema-schema.result) c.schema-schema.ensures.text,
    )
