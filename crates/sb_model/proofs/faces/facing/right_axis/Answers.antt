use Rattle.std.proofs.Common.{true, false}
use Rattle.sb_model.proofs.FacingsOfEdges.{right_is_axis}
use Rattle.sb_model.proofs.faces.facing.right_axis.Goals as goal

pub returns-then-is_along-clause-is_axis : goal.returns-then-is_along-clause-is_axis
returns-then-is_along-clause-is_axis c =
    right_is_axis c.args.along true c.rightward.result c.rightward.ensures

pub returns-else-is_along-clause-is_axis : goal.returns-else-is_along-clause-is_axis
returns-else-is_along-clause-is_axis c =
    right_is_axis c.args.along false c.leftward.result c.leftward.ensures
