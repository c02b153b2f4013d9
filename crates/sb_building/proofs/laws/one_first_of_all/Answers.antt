use Rattle.sb_building.specs.Conditions.{OccursIn}
use Rattle.sb_building.proofs.Conditions.FirstOfAll.{one_first, file_comes_first, products_follow}
use Rattle.sb_building.proofs.Conditions.OneCondition.{one_condition}
use Rattle.sb_building.proofs.laws.one_first_of_all.Goals as goal

pub returns-clause-condition : goal.returns-clause-condition
returns-clause-condition c = λ indexed said u p one two says first second.
    one_condition c.one_list_of_parameters.ensures.unique c.one_chain.ensures.chains indexed said says u p one
    two first second

pub returns-clause-first : goal.returns-clause-first
returns-clause-first c = λ indexed said codes one two says first second.
    one_first (OccursIn indexed said) codes one two (first said says) (second said says)

pub returns-clause-file : goal.returns-clause-file
returns-clause-file c = λ indexed defect first said says.
    file_comes_first indexed said defect (first said says)

pub returns-clause-products : goal.returns-clause-products
returns-clause-products c = λ indexed found none first said says.
    products_follow indexed said found (none said says) (first said says)
