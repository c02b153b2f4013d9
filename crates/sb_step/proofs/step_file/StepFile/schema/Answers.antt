use Rattle.sb_step.proofs.Names.{option_copied}
use Rattle.sb_step.proofs.Records.SchemaIsRead.{none_exactly}
use Rattle.sb_step.proofs.step_file.StepFile.schema.Goals as goal

pub returns-clause-none : goal.returns-clause-none
returns-clause-none c =
    none_exactly c.args.self.now (option_copied c.read_schema.result) c.read_schema.ensures
