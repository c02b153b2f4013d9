use Rattle.sb_building.proofs.OneModel.{one_model}
use Rattle.sb_building.proofs.laws.one_model.Goals as goal

pub returns : goal.returns
returns c = λ indexed said ground reach one two says sound sound_too is was.
    one_model c.one_list_of_parameters.ensures.unique c.one_chain.ensures.chains indexed said ground reach one
    two says sound sound_too is was
