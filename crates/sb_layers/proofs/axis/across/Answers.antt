use Rattle.sb_layers.proofs.SignedAxesAreAxes.{signed_is_axis}
use Rattle.sb_layers.proofs.axis.across.Goals as goal

pub returns-then-is_across_itself-clause-is_axis : goal.returns-then-is_across_itself-clause-is_axis
returns-then-is_across_itself-clause-is_axis c = signed_is_axis c.args.y c.requires
