use Rattle.sb_step.proofs.ParameterLists.ParametersOfAnInstance.{parameters_pinned}
use Rattle.sb_step.proofs.parameters.params.Goals as goal

pub returns-clause-parameters : goal.returns-clause-parameters
returns-clause-parameters c =
    parameters_pinned c.one_list_of_parameters.ensures.unique c.args.file.now c.args.number
    c.find.result c.find.ensures
