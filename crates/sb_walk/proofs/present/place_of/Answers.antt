-- What is found by halving is the place.
use Rattle.sb_walk.proofs.TurnedNumbers.{found_by_halving}
use Rattle.sb_walk.proofs.present.place_of.Goals as goal

pub returns-clause-there : goal.returns-clause-there
returns-clause-there c =
    (found_by_halving c.args.list.now c.requires c.args.number c.binary_search.result
    c.binary_search.ensures.position).0

pub returns-clause-absent : goal.returns-clause-absent
returns-clause-absent c =
    (found_by_halving c.args.list.now c.requires c.args.number c.binary_search.result
    c.binary_search.ensures.position).1
