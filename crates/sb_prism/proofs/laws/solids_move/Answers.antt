use Rattle.sb_prism.proofs.TurnedFirst.{solids_move}
use Rattle.sb_prism.proofs.laws.solids_move.Goals as goal

pub returns : goal.returns
returns c = solids_move
