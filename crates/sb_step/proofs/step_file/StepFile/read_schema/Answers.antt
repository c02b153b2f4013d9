use Rattle.sb_step.proofs.Names.{◌≡◌, ◌↔◌, Some, subst, option_copied, IsSchema, SchemaSays}
use Rattle.sb_step.proofs.Records.SchemaIsRead.{entity_reads_on, found_exactly}
use Rattle.sb_step.proofs.step_file.StepFile.read_schema.Goals as goal

pub one_string-requires : goal.one_string-requires
one_string-requires c =
    let o = subst (SchemaSays c.self.inside.text.bytes.now c.self.inside.text.described.0.header) c.in-One.is
    c.self.invariant.schema_is in
    entity_reads_on c.self.inside.text.bytes.now _ c.self.invariant.is.file o.entity c.in-One.end
    o.only o.form

pub returns-in-One : goal.returns-in-One
returns-in-One c = λ text.
    let o = subst (SchemaSays c.self.inside.text.bytes.now c.self.inside.text.described.0.header) c.in-One.is
    c.self.invariant.schema_is in
    subst (λ s. (option_copied c.one_string.result ≡ Some text) ↔ IsSchema s text) c.self.view_is
    (found_exactly _ c.self.invariant.is.file o.entity c.in-One.end o.only o.form
    (option_copied c.one_string.result) c.one_string.ensures text)
