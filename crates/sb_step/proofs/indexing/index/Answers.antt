use Rattle.sb_step.proofs.Names.{Ok, Err}
use Rattle.sb_step.specs.declared.error.StepError.TheVariants as step_error
use Rattle.sb_step.proofs.Collecting.OneAnswerToAnInput.{answer_pins}
use Rattle.sb_step.proofs.indexing.index.Goals as goal

pub returns-clause-file : goal.returns-clause-file
returns-clause-file c = λ indexed early. answer_pins c.one_file_or_one_fault.ensures.one_file
    c.one_file_or_one_fault.ensures.one_fault c.one_file_or_one_fault.ensures.not_both
    c.args.bytes.now c.read.result (Ok indexed)
    c.read.ensures early (λ e. cc)

pub returns-clause-syntax : goal.returns-clause-syntax
returns-clause-syntax c = λ place early. answer_pins c.one_file_or_one_fault.ensures.one_file
    c.one_file_or_one_fault.ensures.one_fault c.one_file_or_one_fault.ensures.not_both
    c.args.bytes.now c.read.result
    (Err (step_error.Syntax place)) c.read.ensures early (λ e. cc)

pub returns-clause-duplicate : goal.returns-clause-duplicate
returns-clause-duplicate c = λ number early. answer_pins c.one_file_or_one_fault.ensures.one_file
    c.one_file_or_one_fault.ensures.one_fault c.one_file_or_one_fault.ensures.not_both
    c.args.bytes.now c.read.result
    (Err (step_error.Duplicate number)) c.read.ensures early (λ e. cc)
