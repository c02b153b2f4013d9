use Rattle.sb_step.proofs.Names.{rules, answers_always}
use Rattle.sb_step.proofs.Records.RowsAreSearched.{equal_near}
use Rattle.sb_step.proofs.step_file.table.nearby.Goals as goal

pub returns-in-Ok : goal.returns-in-Ok
returns-in-Ok c =
    equal_near c.args.rows.now c.args.number c.window_of-window.result.from c.window_of-window.result.end
    c.in-Ok.at c.window_of-window.ensures.within c.window_of-window.ensures.apart c.in-Ok.ensures.bound
    (c.in-Ok.ensures.position (λ row. row.number)
    (answers_always _ _ _ (λ f a r g h. search rules)))
