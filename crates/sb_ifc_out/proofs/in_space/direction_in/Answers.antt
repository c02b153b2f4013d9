-- The ratios of a direction stay as small as those of its axis.
use Rattle.sb_ifc_out.specs.Steps.{greatest_ratio}
use Rattle.sb_ifc_out.proofs.in_space.direction_in.Goals as goal

pub returns-clause-size : goal.returns-clause-size
returns-clause-size c = c.turned_back.ensures.size greatest_ratio c.axis_span.ensures.size
