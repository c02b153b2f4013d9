use Rattle.sb_prism.proofs.TurnedFirst.{points_lie_across}
use Rattle.sb_prism.proofs.laws.points_lie_across.Goals as goal

pub returns : goal.returns
returns c = points_lie_across
