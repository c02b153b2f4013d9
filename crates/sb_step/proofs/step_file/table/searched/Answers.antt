use Rattle.sb_step.proofs.Names.{rules, answers_always}
use Rattle.sb_step.proofs.Records.RowsAreSearched.{equal_is, none_equal}
use Rattle.sb_step.proofs.step_file.table.searched.Goals as goal

pub returns-in-Ok : goal.returns-in-Ok
returns-in-Ok c =
    equal_is c.args.rows.now c.args.number c.in-Ok.at c.in-Ok.ensures.bound
    (c.in-Ok.ensures.position (λ row. row.number)
    (answers_always _ _ _ (λ f a r g h. search rules)))

pub returns-in-Err : goal.returns-in-Err
returns-in-Err c =
    none_equal c.args.rows.now c.args.number c.in-Err.field-0 c.requires
    (c.in-Err.ensures.position (λ row. row.number)
    (answers_always _ _ _ (λ f a r g h. search rules)))
