use Rattle.sb_place.proofs.OneChain.{space_positions_are_unique, plan_positions_are_unique, chains_are_unique}
use Rattle.sb_place.proofs.laws.one_chain.Goals as goal

pub returns : goal.returns
returns c =
    let unique = c.one_list_of_parameters.ensures.unique in
    record {
      space_positions = space_positions_are_unique unique;
      plan_positions = plan_positions_are_unique unique;
      chains = chains_are_unique unique;
    }
