use Rattle.sb_step.proofs.Names.{◌++◌, ◌∷◌, [], ap, ◌∙◌}
use Rattle.sb_step.proofs.Records.InstancesByNumber.{numbered_more}
use Rattle.sb_step.proofs.step_file.table.numbered.Goals as goal

pub numbers-preserved : goal.numbers-preserved
numbers-preserved c =
    c.in_ok-push.ensures.items
    ∙ ap (λ l. l ++ c.new_row.result ∷ []) c.numbers.invariant
    ∙ numbered_more c.numbers.at c.args.numbers.now c.numbers-test.true c.new_row.result
    c.new_row.ensures
