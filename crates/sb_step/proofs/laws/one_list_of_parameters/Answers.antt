use Rattle.sb_step.proofs.ParameterLists.ParametersExist.{each_instance_has_parameters}
use Rattle.sb_step.proofs.ParameterLists.ParametersOfAnInstance.{has_once}
use Rattle.sb_step.proofs.ParameterLists.ParametersAreUnique.{parameters_are_unique}
use Rattle.sb_step.proofs.ParameterLists.SaidIsParameter.{said_list}
use Rattle.sb_step.proofs.laws.one_list_of_parameters.Goals as goal

pub returns-clause-exist : goal.returns-clause-exist
returns-clause-exist c = each_instance_has_parameters

pub returns-clause-unique : goal.returns-clause-unique
returns-clause-unique c = has_once c.tokens_are_one_list.ensures.unique_from

pub returns-clause-only_lists : goal.returns-clause-only_lists
returns-clause-only_lists c = λ ps xs rest says. said_list says

pub returns-clause-one_a_list : goal.returns-clause-one_a_list
returns-clause-one_a_list c = parameters_are_unique
