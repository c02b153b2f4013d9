-- The report is empty when it was created, so what stands there was written here.
use Rattle.sb_run.proofs.CreatedIsEmptyFirst.{empty_first, whole_written, part_written}
use Rattle.sb_run.proofs.CreatedIsEmptyFirst.{under_premise}
use Rattle.sb_run.proofs.outputs.put_report.Goals as goal

pub returns-in-Ok-clause-written : goal.returns-in-Ok-clause-written
returns-in-Ok-clause-written g c =
    let empty = empty_first _ _ c.create.ensures.keeps.tells_bytes c.in-Ok.ensures.empty in
    let tells = c.write_all.ensures.keeps.output.tells_bytes in
    whole_written c.write_all.result _ _ _ tells empty c.write_all.ensures.bytes

pub returns-in-Ok-clause-in_part : goal.returns-in-Ok-clause-in_part
returns-in-Ok-clause-in_part g c =
    let empty = empty_first _ _ c.create.ensures.keeps.tells_bytes c.in-Ok.ensures.empty in
    let tells = c.write_all.ensures.keeps.output.tells_bytes in
    let result = c.write_all.result in
    under_premise _ _ result
    (part_written result _ _ _ tells empty c.write_all.ensures.first_part)
