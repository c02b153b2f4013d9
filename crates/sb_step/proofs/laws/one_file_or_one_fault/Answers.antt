use Rattle.sb_step.proofs.Texts.OneFileOrOneFault.{each_is_file_or_fault, files_are_unique, faults_are_unique, no_file_has_a_fault}
use Rattle.sb_step.proofs.laws.one_file_or_one_fault.Goals as goal

pub returns-clause-exist : goal.returns-clause-exist
returns-clause-exist c = each_is_file_or_fault c.tokens_are_one_list.ensures.exist

pub returns-clause-one_file : goal.returns-clause-one_file
returns-clause-one_file c = files_are_unique c.tokens_are_one_list.ensures.unique

pub returns-clause-one_fault : goal.returns-clause-one_fault
returns-clause-one_fault c = faults_are_unique c.tokens_are_one_list.ensures.unique

pub returns-clause-not_both : goal.returns-clause-not_both
returns-clause-not_both c = no_file_has_a_fault c.tokens_are_one_list.ensures.unique
