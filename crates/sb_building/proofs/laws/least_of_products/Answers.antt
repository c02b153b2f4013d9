use Rattle.sb_building.proofs.Conditions.LeastOfProducts.{least_is_first}
use Rattle.sb_building.proofs.laws.least_of_products.Goals as goal

pub returns : goal.returns
returns c = λ indexed said u seen found says known given least.
    least_is_first indexed said u c.one_list_of_parameters.ensures.unique c.one_chain.ensures.chains says known
    seen given found least
